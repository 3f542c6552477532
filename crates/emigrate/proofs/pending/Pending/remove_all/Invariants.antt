use Rattle.std.proofs.Common.{◌≡◌, ◌<◌, ◌+◌, ℕ, count_by, slice_index, take}
use Rattle.cluster_types.specs.Partitions.{partition_count}
use Rattle.node_rules.specs.Copies.{is_of}
use Rattle.emigrate.specs.Going.{batch_digests}
use Rattle.emigrate.proofs.pending.Pending.remove_all.Given as goal

abbrev pub invariant-loop-i : goal.invariant-loop-i
invariant-loop-i l =
    (p : ℕ) → p < partition_count → slice_index l.self p + count_by (is_of p) (take l.i (batch_digests l.batch)) ≡ slice_index l.initial.self p
