use Rattle.std.proofs.Common.{rules}
use Rattle.node_core.proofs.node.Node.ending.Goals as goal

pub returns-else-txn : goal.returns-else-txn
returns-else-txn c = search rules
