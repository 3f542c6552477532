use Rattle.std.proofs.Common.{refl}
use Rattle.cluster_rules.proofs.WorldComputing.{world_computing}
use Rattle.cluster_rules.proofs.world_laws.two_nodes_agree.Goals as goal

pub returns-clause-heard : goal.returns-clause-heard
unfolding world_computing
returns-clause-heard c = refl

pub returns-clause-agreed : goal.returns-clause-agreed
unfolding world_computing
returns-clause-agreed c = refl
