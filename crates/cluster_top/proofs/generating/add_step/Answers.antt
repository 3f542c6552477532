use Rattle.std.proofs.Common.{rules}
use Rattle.cluster_top.proofs.generating.add_step.Goals as goal

pub returns-in_default : goal.returns-in_default
returns-in_default c = search rules
