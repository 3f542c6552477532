use Rattle.std.proofs.Common.{rules}
use Rattle.heartbeat.proofs.adjacency.quieter.Goals as goal

pub returns-then-unchanged : goal.returns-then-unchanged
returns-then-unchanged c = search rules
