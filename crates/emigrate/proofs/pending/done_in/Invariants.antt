use Rattle.std.proofs.Common.{◌≡◌, ◌==◌, ◌<◌, ◌≤◌, ℕ, false, length, slice_index}
use Rattle.cluster_types.specs.Partitions.{partition_count}
use Rattle.cluster_types.specs.Rows.{bit}
use Rattle.emigrate.proofs.pending.done_in.Given as goal

abbrev pub invariant-loop-number : goal.invariant-loop-number
invariant-loop-number l = record {
  size : length l.done ≡ partition_count;
  done : (p : ℕ) → p < l.number → bit l.done p ≡ (slice_index l.numbers p == 0);
  rest : (p : ℕ) → l.number ≤ p → bit l.done p ≡ false;
}
