use Rattle.std.proofs.Common.{◌≡◌, ◌<◌, ◌≤◌, ◌-◌, ℕ, false}
use Rattle.cluster_types.specs.RowBytes.{bits_of}
use Rattle.cluster_types.specs.Rows.{bit}
use Rattle.cluster_types.proofs.row.next_place.Given as goal

abbrev pub invariant-loop-p : goal.invariant-loop-p
invariant-loop-p l = record {
  above : l.from ≤ l.p;
  none_before : (q : ℕ) → l.from ≤ q → q < l.p → bit (bits_of l.bytes) q ≡ false;
}

abbrev pub decreases-loop-p : goal.decreases-loop-p
decreases-loop-p l = 4096 - l.p
