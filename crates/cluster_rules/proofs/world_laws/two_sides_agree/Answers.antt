use Rattle.std.proofs.Common.{refl}
use Rattle.cluster_rules.proofs.WorldComputing.{world_computing}
use Rattle.cluster_rules.proofs.Walk.{walking}
use Rattle.cluster_rules.proofs.world_laws.two_sides_agree.Goals as goal

pub returns-clause-proposed : goal.returns-clause-proposed
unfolding world_computing walking
returns-clause-proposed c = refl

pub returns-clause-committed : goal.returns-clause-committed
unfolding world_computing walking
returns-clause-committed c = refl

pub returns-clause-cut : goal.returns-clause-cut
unfolding world_computing walking
returns-clause-cut c = refl

pub returns-clause-blocked : goal.returns-clause-blocked
unfolding world_computing walking
returns-clause-blocked c = refl
