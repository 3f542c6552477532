use Rattle.std.proofs.Common.{rules}
use Rattle.byte_ends.proofs.standard.StdSinkSink.push.Goals as goal

pub returns-in-Ok-clause-counts : goal.returns-in-Ok-clause-counts
returns-in-Ok-clause-counts g c = search rules
