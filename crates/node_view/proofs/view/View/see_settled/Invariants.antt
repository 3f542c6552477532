use Rattle.std.proofs.Common.{◌≤◌, ◌-◌}
use Rattle.cluster_types.specs.Partitions.{partition_count}
use Rattle.node_view.proofs.SeenLaws.{IsSeenUpTo}
use Rattle.node_view.proofs.view.View.see_settled.Given as goal

abbrev pub invariant-loop-p : goal.invariant-loop-p
invariant-loop-p l = record {
  seen : IsSeenUpTo l.initial.self l.before l.store.versions l.from l.self;
  low : l.from ≤ partition_count;
}

abbrev pub decreases-loop-p : goal.decreases-loop-p
decreases-loop-p l = 4096 - l.from
