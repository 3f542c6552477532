-- A set of numbers of writes.
use Rattle.std.specs.Prelude.{◌==◌, ℕ, ◌+◌, ◌<◌, Bool, false, List, [], ◌∷◌, ◌++◌, All, AllPairs}
use Rattle.std.specs.List.{range_with_len}

pub record Numbered : Type 0 where
  -- the numbers in strictly rising order
  pub numbers : List ℕ
  -- how many can be added without memory
  pub spare : ℕ

-- the numbers from 1 to one, and others
abbrev pub numbers_of : ℕ → List ℕ → List ℕ
numbers_of upto above = range_with_len 1 upto ++ above

-- the others rise strictly, above a gap
pub record IsAboveGap (upto : ℕ) (above : List ℕ) : Type 0 where
  pub rising : AllPairs (λ a b. a < b) above
  pub gap : All (λ n. upto + 1 < n) above

-- whether the number stands first
abbrev pub stands_first : List ℕ → ℕ → Bool
stands_first [] n = false
stands_first (m ∷ ms) n = m == n
