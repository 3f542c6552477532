-- How what is open is kept: in a slot for each number from the first open one on.
use Rattle.std.specs.Prelude.{ℕ, ◌+◌, Bool, true, false, List, [], ◌∷◌, Option, Some, None}

-- the items in slots, each under its slot's number, where so many numbers were given before the first slot's
abbrev pub items_from : {X : Type 0} → ℕ → List (Option X) → List (ℕ × X)
items_from b [] = []
items_from b (None ∷ slots) = items_from (b + 1) slots
items_from b (Some x ∷ slots) = (b + 1, x) ∷ items_from (b + 1) slots

-- the first slot, if there is one, has an item
abbrev pub starts_with_item : {X : Type 0} → List (Option X) → Bool
starts_with_item [] = true
starts_with_item (None ∷ slots) = false
starts_with_item (Some x ∷ slots) = true
