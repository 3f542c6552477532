use Rattle.std.proofs.Common.{arith}
use Rattle.std.proofs.lemmas.Grind.{common_steps}
use Rattle.partition_lists.proofs.view_lists.Lists.list.Goals as goal

pub push-requires-clause-new : goal.push-requires-clause-new
push-requires-clause-new c = grind (arith, common_steps)

pub returns : goal.returns
returns c = grind (arith, common_steps)
