use Rattle.std.proofs.Common.{rules}
use Rattle.cluster_top.proofs.counting.summary.Goals as goal

pub returns : goal.returns
returns c = search rules
