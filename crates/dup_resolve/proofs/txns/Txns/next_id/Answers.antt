use Rattle.std.proofs.Common.{rules}
use Rattle.dup_resolve.proofs.txns.Txns.next_id.Goals as goal

pub returns : goal.returns
returns c = search rules
