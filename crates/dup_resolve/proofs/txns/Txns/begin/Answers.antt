use Rattle.std.proofs.Common.{rules}
use Rattle.dup_resolve.proofs.txns.Txns.begin.Goals as goal

pub returns-clause-running : goal.returns-clause-running
returns-clause-running c = search rules

pub returns-in-Some-clause-busy : goal.returns-in-Some-clause-busy
returns-in-Some-clause-busy c = search rules
