use Rattle.std.proofs.Common.{refl}
use Rattle.cluster_rules.proofs.Walk.{walking, one_hands, two_hands, one_merges, two_keeps}
use Rattle.cluster_rules.proofs.world_laws.two_sides_settle.Goals as goal

pub returns-clause-one_hands : goal.returns-clause-one_hands
returns-clause-one_hands c = one_hands

pub returns-clause-two_hands : goal.returns-clause-two_hands
returns-clause-two_hands c = two_hands

pub returns-clause-merges : goal.returns-clause-merges
returns-clause-merges c = one_merges

pub returns-clause-keeps : goal.returns-clause-keeps
returns-clause-keeps c = two_keeps

pub returns-clause-acked : goal.returns-clause-acked
returns-clause-acked c = (refl, refl)

pub returns-clause-done : goal.returns-clause-done
unfolding walking
returns-clause-done c = (refl, refl)

pub returns-clause-settles : goal.returns-clause-settles
unfolding walking
returns-clause-settles c = refl

pub returns-clause-learns : goal.returns-clause-learns
unfolding walking
returns-clause-learns c = refl

pub returns-clause-rests : goal.returns-clause-rests
unfolding walking
returns-clause-rests c = (refl, refl, refl)
