use Rattle.std.proofs.Common.{rules}
use Rattle.item_lists.proofs.owned_list.OwnedList.take_first.Goals as goal

pub returns-clause-first : goal.returns-clause-first
returns-clause-first g c = search rules

pub returns-clause-rest : goal.returns-clause-rest
returns-clause-rest g c = search rules
