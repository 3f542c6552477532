use Rattle.std.proofs.Common.{refl}
use Rattle.cluster_rules.proofs.WorldComputing.{world_computing}
use Rattle.cluster_rules.proofs.Walk.{walking}
use Rattle.cluster_rules.proofs.world_laws.calm_goes_group_by_group.Goals as goal

pub returns-clause-alone : goal.returns-clause-alone
unfolding world_computing walking
returns-clause-alone c = refl

pub returns-clause-quiesced : goal.returns-clause-quiesced
unfolding world_computing walking
returns-clause-quiesced c = (refl, refl)

pub returns-clause-stopped : goal.returns-clause-stopped
unfolding world_computing walking
returns-clause-stopped c = (refl, refl)

pub returns-clause-flying : goal.returns-clause-flying
unfolding world_computing walking
returns-clause-flying c = (refl, refl)

pub returns-clause-parted : goal.returns-clause-parted
unfolding world_computing walking
returns-clause-parted c = refl

pub returns-clause-joined : goal.returns-clause-joined
unfolding world_computing walking
returns-clause-joined c = refl

pub returns-clause-nobody : goal.returns-clause-nobody
unfolding world_computing walking
returns-clause-nobody c = refl

pub returns-clause-new : goal.returns-clause-new
unfolding world_computing walking
returns-clause-new c = refl
