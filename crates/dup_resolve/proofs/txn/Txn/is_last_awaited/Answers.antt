use Rattle.std.proofs.Common.{rules}
use Rattle.dup_resolve.proofs.txn.Txn.is_last_awaited.Goals as goal

pub returns : goal.returns
returns c = search rules
