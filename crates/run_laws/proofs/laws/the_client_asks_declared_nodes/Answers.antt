use Rattle.run_laws.proofs.Worlds.{asks_declared}
use Rattle.run_laws.proofs.laws.the_client_asks_declared_nodes.Goals as goal

pub returns : goal.returns
returns c = asks_declared
