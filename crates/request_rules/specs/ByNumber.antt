-- What is open under numbers that were given in succession.
use Rattle.std.specs.Prelude.{ℕ, ◌==◌, Bool, true, false, not, List, Option, filter, map}
use Rattle.std.specs.Map.{lookup}

-- items under their numbers, which rise
abbrev pub ByNumber : Type 0 → Type 0
ByNumber X = List (ℕ × X)

-- what is open under the number
abbrev pub item_under : {X : Type 0} → ByNumber X → ℕ → Option X
item_under xs n = lookup (λ m. m == n) xs

-- the others
abbrev pub without_number : {X : Type 0} → ByNumber X → ℕ → ByNumber X
without_number xs n = filter (λ x. not (x.0 == n)) xs

-- the item, changed where the test holds
abbrev pub changed_under : {X : Type 0} → (X → X) → ℕ × X → Bool → ℕ × X
changed_under change x true = (x.0, change x.1)
changed_under change x false = x

-- a change of what is open under the number
abbrev pub changing_item : {X : Type 0} → ByNumber X → ℕ → (X → X) → ByNumber X
changing_item xs n change = map (λ x. changed_under change x (x.0 == n)) xs
