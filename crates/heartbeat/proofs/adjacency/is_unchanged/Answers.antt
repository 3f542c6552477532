use Rattle.std.proofs.Common.{rules}
use Rattle.heartbeat.proofs.adjacency.is_unchanged.Goals as goal

pub returns-in-None : goal.returns-in-None
returns-in-None c = search rules
