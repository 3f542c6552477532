use Rattle.std.proofs.Common.{rules}
use Rattle.progress.proofs.counts.recount_byte.Goals as goal

pub loop-b-preserved : goal.loop-b-preserved
loop-b-preserved c = search rules
