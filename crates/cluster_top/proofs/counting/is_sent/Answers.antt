use Rattle.std.proofs.Common.{rules}
use Rattle.cluster_top.proofs.counting.is_sent.Goals as goal

pub returns-in_default : goal.returns-in_default
returns-in_default c = search rules
