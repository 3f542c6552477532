-- The digests of a batch's records.
use Rattle.std.specs.Prelude.{◌≡◌, ℕ, List, map, AllPairs}
use Rattle.std.specs.declared.cmp.Ordering.TheVariants.{Less}
use Rattle.std.specs.Ordering.{nat_cmp}
use Rattle.std.specs.Cmp.Lexicographic.{slice_cmp}
use Rattle.node_rules.specs.Merging.{Record}

abbrev pub record_digests : List Record → List (List ℕ)
record_digests rs = map (λ r. r.0) rs

-- the digests rise strictly
abbrev pub IsRising : List Record → Type 0
IsRising rs = AllPairs (λ a b. slice_cmp nat_cmp a.0 b.0 ≡ Less) rs
