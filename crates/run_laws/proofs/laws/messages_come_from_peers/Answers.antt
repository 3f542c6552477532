use Rattle.run_laws.proofs.Worlds.{messages_come}
use Rattle.run_laws.proofs.laws.messages_come_from_peers.Goals as goal

pub returns : goal.returns
returns c = messages_come
