use Rattle.run_laws.proofs.WorldSends.{sends_are_read}
use Rattle.run_laws.proofs.laws.what_nodes_send_is_read.Goals as goal

pub returns : goal.returns
returns c = sends_are_read
