-- The slots in which messages are kept, one for each number from some number on.
use Rattle.std.specs.Prelude.{ℕ, ◌+◌, Bool, true, false, List, [], ◌∷◌, Option, Some, None}
use Rattle.net_script.specs.declared.net.Flying.{Flying}

-- the messages in these slots, behind their numbers. So many messages were sent before the first slot's
abbrev pub numbered : ℕ → List (Option Flying) → List (ℕ × Flying)
numbered before [] = []
numbered before (None ∷ slots) = numbered (before + 1) slots
numbered before (Some m ∷ slots) = (before + 1, m) ∷ numbered (before + 1) slots

-- the first slot, if there is one, holds a message
abbrev pub starts_full : List (Option Flying) → Bool
starts_full [] = true
starts_full (None ∷ slots) = false
starts_full (Some m ∷ slots) = true
