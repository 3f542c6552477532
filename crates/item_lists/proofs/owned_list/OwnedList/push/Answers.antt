use Rattle.std.proofs.Common.{rules}
use Rattle.item_lists.proofs.owned_list.OwnedList.push.Goals as goal

pub returns-clause-ok : goal.returns-clause-ok
returns-clause-ok g c = search rules
