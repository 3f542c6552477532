use Rattle.cluster_rules.proofs.OneNode.{runs}
use Rattle.cluster_rules.proofs.world_laws.one_node_runs.Goals as goal

pub returns : goal.returns
returns c = runs
