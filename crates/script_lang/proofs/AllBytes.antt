-- Bytes, place by place and item by item.
use Rattle.std.proofs.Common.{◌≡◌, ℕ, List, length, get_or, arith, inl, inr}
use Rattle.std.proofs.lemmas.Bool.{cases_lt}
use Rattle.std.proofs.lemmas.List.{get_or_default, get_or_past}
use Rattle.hex.specs.Hex.{IsBytes}
use Rattle.cluster_types.specs.Ranges.{AreBytes}

-- what holds of each element holds past the end too
pub bytes_from_all : (xs : List ℕ) → AreBytes xs → IsBytes xs
bytes_from_all xs all = λ i. elim (cases_lt i (length xs)) [
  | inl below ↦ all i 0 below
  | inr past ↦ let none : get_or xs i 0 ≡ 0 = get_or_past xs i 0 past in omega (arith, none)
]

-- what holds of each place holds of each element
pub all_from_bytes : (xs : List ℕ) → IsBytes xs → AreBytes xs
all_from_bytes xs h = λ i d below.
    let same : get_or xs i 0 ≡ get_or xs i d = get_or_default xs i 0 d below in
    omega (arith, h i, same)
