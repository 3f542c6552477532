use Rattle.replay_core.proofs.PlayLaws.{nothing_claimed}
use Rattle.replay_core.proofs.outcome.ReplayOutcome.unplayed.Goals as goal

pub invariant_of-result : goal.invariant_of-result
invariant_of-result c = nothing_claimed _ c.new.ensures.lines
