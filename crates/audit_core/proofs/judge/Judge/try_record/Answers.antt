use Rattle.std.proofs.Common.{rules}
use Rattle.audit_core.proofs.judge.Judge.try_record.Goals as goal

pub returns-clause-ok : goal.returns-clause-ok
returns-clause-ok c = search rules
