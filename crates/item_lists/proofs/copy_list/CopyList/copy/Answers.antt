use Rattle.std.proofs.Common.{rules}
use Rattle.item_lists.proofs.copy_list.CopyList.copy.Goals as goal

pub returns : goal.returns
returns g c = search rules
