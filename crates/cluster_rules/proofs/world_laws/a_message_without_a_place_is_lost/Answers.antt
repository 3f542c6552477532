use Rattle.std.proofs.Common.{refl}
use Rattle.cluster_rules.proofs.WorldComputing.{world_computing}
use Rattle.cluster_rules.proofs.world_laws.a_message_without_a_place_is_lost.Goals as goal

pub returns-clause-full : goal.returns-clause-full
unfolding world_computing
returns-clause-full c = refl

pub returns-clause-one_left : goal.returns-clause-one_left
unfolding world_computing
returns-clause-one_left c = refl

pub returns-clause-gone : goal.returns-clause-gone
unfolding world_computing
returns-clause-gone c = refl

pub returns-clause-kept : goal.returns-clause-kept
returns-clause-kept c = refl
