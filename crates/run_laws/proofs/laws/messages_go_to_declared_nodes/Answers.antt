use Rattle.run_laws.proofs.Worlds.{have_receivers}
use Rattle.run_laws.proofs.laws.messages_go_to_declared_nodes.Goals as goal

pub returns : goal.returns
returns c = have_receivers
