use Rattle.std.proofs.Common.{rules}
use Rattle.audit_core.proofs.auditing.answer.Goals as goal

pub returns-in-Breaks : goal.returns-in-Breaks
returns-in-Breaks c = search rules
