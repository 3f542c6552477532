use Rattle.std.proofs.Common.{◌≡◌, ◌<◌, ℕ, get_or}
use Rattle.std.specs.Prelude.{bit_or}
use Rattle.cluster_types.proofs.row.lacks_some.Given as goal

abbrev pub invariant-loop-i : goal.invariant-loop-i
invariant-loop-i l = (k : ℕ) → k < l.i → bit_or (get_or l.bytes k 0) (get_or l.other k 0) ≡ get_or l.bytes k 0
