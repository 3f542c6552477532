use Rattle.std.proofs.Common.{rules}
use Rattle.audit_laws.proofs.law.LawDisplay.fmt.Goals as goal

pub returns-in-NoLoss-clause-writes : goal.returns-in-NoLoss-clause-writes
returns-in-NoLoss-clause-writes g c = search rules
