use Rattle.std.proofs.Common.{rules}
use Rattle.node_view.proofs.notes.put_write.Goals as goal

pub returns-in-Some : goal.returns-in-Some
returns-in-Some c = search rules
