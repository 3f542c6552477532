use Rattle.std.proofs.Common.{arith}
use Rattle.std.proofs.lemmas.Grind.{common_steps}
use Rattle.partition_lists.proofs.view_lists.Lists.is_replica.Goals as goal

pub returns : goal.returns
returns c = grind (arith, common_steps)
