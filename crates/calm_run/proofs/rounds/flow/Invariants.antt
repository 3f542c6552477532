use Rattle.cluster_types.specs.Partitions.{partition_count}
use Rattle.cluster_rules.specs.Steps.{flow}
use Rattle.world.specs.Steps.{standing}
use Rattle.calm_run.proofs.Sequels.{AreUnderway}
use Rattle.calm_run.proofs.RoundLaws.{deliveries_from}
use Rattle.calm_run.proofs.rounds.flow.Given as goal

abbrev pub invariant-loop-message : goal.invariant-loop-message
invariant-loop-message l =
    AreUnderway l.initial.world l.world (flow partition_count (standing l.initial.world)).steps (deliveries_from l.message-items l.message-index (standing l.world))
