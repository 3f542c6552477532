use Rattle.std.proofs.Common.{rules}
use Rattle.heartbeat.proofs.adjacency.Adjacency.stopped.Goals as goal

pub returns : goal.returns
returns c = search rules
