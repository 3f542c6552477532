use Rattle.cluster_rules.proofs.NodeLaws.{node_step, tick_step}
use Rattle.cluster_rules.proofs.node_laws.marks_of_a_node_are_its_own_step.Goals as goal

pub returns : goal.returns
returns c = record { step = node_step; tick = tick_step }
