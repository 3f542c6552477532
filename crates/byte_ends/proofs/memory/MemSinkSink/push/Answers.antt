use Rattle.std.proofs.Common.{rules}
use Rattle.byte_ends.proofs.memory.MemSinkSink.push.Goals as goal

pub returns-clause-after : goal.returns-clause-after
returns-clause-after c = search rules
