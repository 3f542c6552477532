use Rattle.std.proofs.Common.{arith}
use Rattle.std.proofs.lemmas.Grind.{common_steps}
use Rattle.item_lists.proofs.owned_list.OwnedList.copy.Goals as goal

pub returns : goal.returns
returns g c = grind (arith, common_steps)
