use Rattle.std.proofs.Common.{rules}
use Rattle.cluster_top.proofs.auditing.audit_journal.Goals as goal

pub returns-in-Ok-clause-ended : goal.returns-in-Ok-clause-ended
returns-in-Ok-clause-ended g c = search rules
