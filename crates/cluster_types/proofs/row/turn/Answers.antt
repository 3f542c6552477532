use Rattle.std.proofs.Common.{rules}
use Rattle.cluster_types.proofs.row.turn.Goals as goal

pub loop-byte-preserved : goal.loop-byte-preserved
loop-byte-preserved c = search rules
