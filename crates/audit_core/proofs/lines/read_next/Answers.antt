use Rattle.std.proofs.Common.{rules}
use Rattle.audit_core.proofs.lines.read_next.Goals as goal

pub returns-in_default-clause-at : goal.returns-in_default-clause-at
returns-in_default-clause-at c = search rules

pub returns-in_default-2-clause-at : goal.returns-in_default-2-clause-at
returns-in_default-2-clause-at c = search rules

pub returns-in-Err-Full-clause-at : goal.returns-in-Err-Full-clause-at
returns-in-Err-Full-clause-at c = search rules

pub returns-in-Ok-clause-ok : goal.returns-in-Ok-clause-ok
returns-in-Ok-clause-ok c = search rules
