use Rattle.std.proofs.Common.{rules}
use Rattle.wire_codec.proofs.writing.kinds.put_heartbeat.Goals as goal

pub returns-then-plain-2 : goal.returns-then-plain-2
returns-then-plain-2 c = search rules

pub returns-else-plain-2 : goal.returns-else-plain-2
returns-else-plain-2 c = search rules
