use Rattle.std.proofs.Common.{rules}
use Rattle.cluster_top.proofs.auditing.ending_of.Goals as goal

pub returns-in-Fails : goal.returns-in-Fails
returns-in-Fails c = search rules
