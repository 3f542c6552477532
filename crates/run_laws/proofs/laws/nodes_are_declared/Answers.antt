use Rattle.run_laws.proofs.Worlds.{knows_nodes}
use Rattle.run_laws.proofs.laws.nodes_are_declared.Goals as goal

pub returns : goal.returns
returns c = knows_nodes
