-- Tables by a number, such as a node's or a partition's, and lists of numbers.
use Rattle.std.specs.Prelude.{ℕ, zero, suc, ◌+◌, ◌&&◌, Bool, true, false, List, [], ◌∷◌, Option}
use Rattle.std.specs.Ordering.{nat_cmp}
use Rattle.std.specs.FinMap.{find, put}
pub use Rattle.cluster_types.specs.Distinct.{contains}

-- entries in strictly rising order of their numbers
abbrev pub Table : Type 0 → Type 0
Table X = List (ℕ × X)

-- what the table has at the number
abbrev pub at : {X : Type 0} → Table X → ℕ → Option X
at table n = find nat_cmp n table

-- the table with this at the number, in place of what stood there
abbrev pub table_with : {X : Type 0} → Table X → ℕ → X → Table X
table_with table n x = put nat_cmp n x table

-- the item, changed where the test holds
abbrev pub changed_if : {X : Type 0} → (X → X) → X → Bool → X
changed_if change x true = change x
changed_if change x false = x

-- whether there are none
abbrev pub is_nil : {X : Type 0} → List X → Bool
is_nil [] = true
is_nil (x ∷ xs) = false

-- the item alone, where the test holds
abbrev pub only_if : {X : Type 0} → X → Bool → List X
only_if x true = x ∷ []
only_if x false = []

-- ---- tests of numbers in succession

-- whether so many numbers, from one on, all pass the test
unfoldable pub all_from : (ℕ → Bool) → ℕ → ℕ → Bool
all_from test zero p = true
all_from test (suc n) p = test p && all_from test n (p + 1)

-- what the test says of each of so many numbers, from one on
unfoldable pub bits_from : (ℕ → Bool) → ℕ → ℕ → List Bool
bits_from test zero p = []
bits_from test (suc n) p = test p ∷ bits_from test n (p + 1)
