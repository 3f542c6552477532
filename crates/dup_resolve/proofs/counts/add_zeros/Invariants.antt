use Rattle.std.proofs.Common.{◌≡◌, ◌≤◌, ◌-◌, ℕ, length, slice_index}
use Rattle.cluster_types.specs.Partitions.{partition_count}
use Rattle.dup_resolve.proofs.counts.add_zeros.Given as goal

abbrev pub invariant-loop-numbers : goal.invariant-loop-numbers
invariant-loop-numbers l = record {
  same : (p : ℕ) → slice_index l.numbers.items p ≡ slice_index l.initial.numbers.items p;
  kept : length l.initial.numbers.items ≤ length l.numbers.items;
}

abbrev pub decreases-loop-numbers : goal.decreases-loop-numbers
decreases-loop-numbers l = partition_count - length l.numbers.items
