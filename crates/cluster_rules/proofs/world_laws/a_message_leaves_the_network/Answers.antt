use Rattle.std.proofs.Common.{refl}
use Rattle.cluster_rules.proofs.WorldComputing.{world_computing}
use Rattle.cluster_rules.proofs.world_laws.a_message_leaves_the_network.Goals as goal

pub returns-clause-flying : goal.returns-clause-flying
unfolding world_computing
returns-clause-flying c = refl

pub returns-clause-delivered : goal.returns-clause-delivered
unfolding world_computing
returns-clause-delivered c = (refl, refl)

pub returns-clause-heard : goal.returns-clause-heard
unfolding world_computing
returns-clause-heard c = refl

pub returns-clause-repeated : goal.returns-clause-repeated
unfolding world_computing
returns-clause-repeated c = (refl, refl)

pub returns-clause-cut : goal.returns-clause-cut
unfolding world_computing
returns-clause-cut c = (refl, refl)

pub returns-clause-cut_whole : goal.returns-clause-cut_whole
unfolding world_computing
returns-clause-cut_whole c = (refl, refl)

pub returns-clause-lost : goal.returns-clause-lost
unfolding world_computing
returns-clause-lost c = (refl, refl)

pub returns-clause-absent : goal.returns-clause-absent
unfolding world_computing
returns-clause-absent c = (refl, refl)

pub returns-clause-apart : goal.returns-clause-apart
unfolding world_computing
returns-clause-apart c = (refl, refl)

pub returns-clause-stopped : goal.returns-clause-stopped
unfolding world_computing
returns-clause-stopped c = (refl, refl)

pub returns-clause-cut_is_gone : goal.returns-clause-cut_is_gone
unfolding world_computing
returns-clause-cut_is_gone c = refl
