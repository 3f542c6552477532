-- Rows of a bit for each partition.
use Rattle.std.specs.Prelude.{◌≡◌, ◌≤◌, ◌<◌, ◌||◌, ℕ, Bool, true, false, List, [], ◌∷◌, slice_index_or}

-- whether a partition's bit is set; no bit is set past the end
abbrev pub bit : List Bool → ℕ → Bool
bit row p = slice_index_or row p false

-- the row with each bit that either has
abbrev pub or_rows : List Bool → List Bool → List Bool
or_rows [] [] = []
or_rows [] (b ∷ bs) = b ∷ bs
or_rows (a ∷ rest) [] = a ∷ rest
or_rows (a ∷ rest) (b ∷ bs) = (a || b) ∷ or_rows rest bs

-- no bit is set
pub record IsClear (row : List Bool) : Type 0 where
  pub clear : (p : ℕ) → bit row p ≡ false

-- p is the first partition from that number on whose bit is set
pub record IsNextSet (row : List Bool) (from p : ℕ) : Type 0 where
  pub above : from ≤ p
  pub set : bit row p ≡ true
  pub none_between : (q : ℕ) → from ≤ q → q < p → bit row q ≡ false

-- no bit is set from that of the partition of that number on
pub record IsClearFrom (row : List Bool) (from : ℕ) : Type 0 where
  pub clear : (q : ℕ) → from ≤ q → bit row q ≡ false
