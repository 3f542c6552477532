-- What is open under numbers that were given in succession, as a caller sees it.
use Rattle.std.specs.Prelude.{◌≡◌, ℕ, ◌<◌, ◌≤◌, All, AllPairs}
use Rattle.request_rules.specs.ByNumber.{ByNumber}

pub record OpenNumbers (X : Type 0) : Type 0 where
  -- how many numbers were given
  pub given : ℕ
  -- what is open, each item under its number, in rising order
  pub items : ByNumber X
  -- how many items can be opened without memory
  pub spare : ℕ

-- all but the room is the same
pub record KeepsItems {X : Type 0} (old new : OpenNumbers X) : Type 0 where
  pub given : new.given ≡ old.given
  pub items : new.items ≡ old.items

-- the numbers rise strictly, from 1 up to the last one at most
pub record HaveRisingNumbers {X : Type 0} (last : ℕ) (xs : ByNumber X) : Type 0 where
  pub rising : AllPairs (λ x y. x.0 < y.0) xs
  pub from_one : All (λ x. 0 < x.0) xs
  pub to_last : All (λ x. x.0 ≤ last) xs
