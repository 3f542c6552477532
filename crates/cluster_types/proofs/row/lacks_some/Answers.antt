use Rattle.std.proofs.Common.{rules}
use Rattle.cluster_types.proofs.row.lacks_some.Goals as goal

pub returns-then-bytes-i-clause-some : goal.returns-then-bytes-i-clause-some
returns-then-bytes-i-clause-some c = search rules

pub loop-i-preserved : goal.loop-i-preserved
loop-i-preserved c = search rules
