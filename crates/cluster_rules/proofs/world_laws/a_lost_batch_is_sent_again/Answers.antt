use Rattle.std.proofs.Common.{refl}
use Rattle.cluster_rules.proofs.Walk.{walking, two_keeps_again}
use Rattle.cluster_rules.proofs.world_laws.a_lost_batch_is_sent_again.Goals as goal

pub returns-clause-again : goal.returns-clause-again
unfolding walking
returns-clause-again c = (refl, refl)

pub returns-clause-twice : goal.returns-clause-twice
returns-clause-twice c = two_keeps_again

pub returns-clause-acked : goal.returns-clause-acked
returns-clause-acked c = refl

pub returns-clause-done : goal.returns-clause-done
unfolding walking
returns-clause-done c = (refl, refl, refl, refl)

pub returns-clause-spent : goal.returns-clause-spent
returns-clause-spent c = refl

pub returns-clause-stale : goal.returns-clause-stale
returns-clause-stale c = refl
