use Rattle.std.proofs.Common.{rules}
use Rattle.node_view.proofs.view.View.count_settled.Goals as goal

pub returns : goal.returns
returns c = search rules
