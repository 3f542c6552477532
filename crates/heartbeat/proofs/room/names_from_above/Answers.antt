use Rattle.std.proofs.Common.{rules}
use Rattle.heartbeat.proofs.room.names_from_above.Goals as goal

pub returns-then-lt : goal.returns-then-lt
returns-then-lt c = search rules
