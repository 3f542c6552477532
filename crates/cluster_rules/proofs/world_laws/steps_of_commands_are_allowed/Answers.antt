use Rattle.std.proofs.Common.{refl}
use Rattle.cluster_rules.proofs.AllowedLaws.{commands_allowed, allowed_due, nodes_stay}
use Rattle.cluster_rules.proofs.WorldComputing.{world_computing}
use Rattle.cluster_rules.proofs.Walk.{walking}
use Rattle.cluster_rules.proofs.world_laws.steps_of_commands_are_allowed.Goals as goal

pub returns-clause-allowed : goal.returns-clause-allowed
returns-clause-allowed c = λ n w cs x e h. commands_allowed n cs w x e h

pub returns-clause-due : goal.returns-clause-due
returns-clause-due c = λ n w ss h. allowed_due n ss w h

pub returns-clause-nodes : goal.returns-clause-nodes
returns-clause-nodes c = λ w ms. nodes_stay ms w

pub returns-clause-tick : goal.returns-clause-tick
unfolding world_computing
returns-clause-tick c = (refl, refl)

pub returns-clause-groups : goal.returns-clause-groups
unfolding world_computing
returns-clause-groups c = (refl, refl, refl)

pub returns-clause-calmed : goal.returns-clause-calmed
unfolding world_computing walking
returns-clause-calmed c = (refl, refl)
