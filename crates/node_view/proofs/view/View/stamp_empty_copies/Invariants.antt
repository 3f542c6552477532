use Rattle.std.proofs.Common.{◌≡◌, ◌+◌, ℕ}
use Rattle.cluster_types.specs.Partitions.{partition_count}
use Rattle.node_view.proofs.StampLaws.{stamps_of}
use Rattle.node_view.proofs.view.View.stamp_empty_copies.Given as goal

abbrev pub invariant-loop-number : goal.invariant-loop-number
invariant-loop-number l = record {
  stamps : (n : ℕ) → n + l.number ≡ partition_count → stamps_of l.self l.store.stamps n l.number ≡ stamps_of l.self l.initial.store.stamps partition_count 0;
  versions : l.store.versions ≡ l.initial.store.versions;
  policy : l.store.by ≡ l.initial.store.by;
}
