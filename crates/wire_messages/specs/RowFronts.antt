-- Bit rows of which the front is read.
use Rattle.std.specs.Prelude.{◌≡◌, ℕ, nat_lt, ◌&&◌, Bool, List, [], length, slice_index_or}
use Rattle.cluster_types.specs.Rows.{bit}
use Rattle.cluster_types.specs.RowBytes.{byte_bit}

-- the bits of the first n partitions are those of the bytes, and none behind them is set
pub record HasFront (row : List Bool) (bytes : List ℕ) (n : ℕ) : Type 0 where
  pub size : length row ≡ 4096
  pub bits : (q : ℕ) → bit row q ≡ (nat_lt q n && byte_bit bytes q)

-- the second of a pair of rows
abbrev pub second : List (List Bool) → List Bool
second pair = slice_index_or pair 1 []
