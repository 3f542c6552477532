use Rattle.std.proofs.Common.{rules}
use Rattle.cluster_types.proofs.row.xor_into.Goals as goal

pub loop-i-preserved : goal.loop-i-preserved
loop-i-preserved c = search rules
