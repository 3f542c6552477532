use Rattle.replay_core.proofs.PlayLaws.{all_claimed}
use Rattle.replay_core.proofs.outcome.ReplayOutcome.played.Goals as goal

pub invariant_of-result : goal.invariant_of-result
invariant_of-result c = all_claimed _ c.into_parts-journal.ensures.within c.into_parts-journal.ensures.claims
