use Rattle.std.proofs.Common.{rules}
use Rattle.node_view.proofs.view.View.has_moved.Goals as goal

pub returns-then-is_handed : goal.returns-then-is_handed
returns-then-is_handed c = search rules

pub returns-else-is_handed : goal.returns-else-is_handed
returns-else-is_handed c = search rules
