use Rattle.std.proofs.Common.{arith}
use Rattle.std.proofs.lemmas.Grind.{common_steps}
use Rattle.item_lists.proofs.copy_list.CopyList.len.Goals as goal

pub returns : goal.returns
returns g c = grind (arith, common_steps)
