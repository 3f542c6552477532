use Rattle.std.proofs.Common.{◌≡◌, take}
use Rattle.cluster_types.specs.Partitions.{partition_of}
use Rattle.node_rules.specs.Agreement.{others_among}
use Rattle.node_rules.specs.Batches.{targets_of}
use Rattle.emigrate.specs.Going.{AreCounts}
use Rattle.emigrate.proofs.emigration.Emigration.begin.Given as goal

abbrev pub invariant-loop-member : goal.invariant-loop-member
invariant-loop-member g l = record {
  targets : l.targets.items ≡ targets_of (λ to d. g.X.MapView.sends_to l.x (partition_of d) l.me to) l.store.versions (others_among l.me (take l.member-index l.member-items));
  counts : AreCounts l.targets.items l.pending;
}
