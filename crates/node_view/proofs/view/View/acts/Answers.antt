use Rattle.std.proofs.Common.{rules}
use Rattle.node_view.proofs.view.View.acts.Goals as goal

pub returns-then-not-is_own_handed : goal.returns-then-not-is_own_handed
returns-then-not-is_own_handed c = search rules
