use Rattle.std.proofs.Common.{rules}
use Rattle.dup_resolve.proofs.txns.Txns.close_all.Goals as goal

pub returns-clause-closed : goal.returns-clause-closed
returns-clause-closed c = search rules
