use Rattle.cluster_types.specs.Partitions.{partition_count}
use Rattle.cluster_rules.specs.Steps.{round}
use Rattle.world.specs.Steps.{standing}
use Rattle.calm_run.proofs.Sequels.{AreUnderway}
use Rattle.calm_run.proofs.RoundLaws.{flows_from, ticks_from}
use Rattle.calm_run.proofs.rounds.round.Given as goal

abbrev pub invariant-loop-node : goal.invariant-loop-node
invariant-loop-node l =
    AreUnderway l.initial.world l.world (round partition_count (standing l.initial.world)).steps (ticks_from l.node-items l.node-index (standing l.world))

abbrev pub invariant-loop : goal.invariant-loop
invariant-loop l =
    AreUnderway l.fn.world l.world (round partition_count (standing l.fn.world)).steps (flows_from l.counter (standing l.world))
