use Rattle.std.proofs.Common.{rules}
use Rattle.node_view.proofs.view.View.stamp_empty_copy.Goals as goal

pub returns-else-is_all_empty : goal.returns-else-is_all_empty
returns-else-is_all_empty c = search rules
