use Rattle.std.proofs.Common.{rules}
use Rattle.conflict_order.proofs.want.Want.action.Goals as goal

pub returns-in-Del : goal.returns-in-Del
returns-in-Del c = search rules
