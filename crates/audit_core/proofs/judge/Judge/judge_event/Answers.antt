use Rattle.std.proofs.Common.{rules}
use Rattle.audit_core.proofs.judge.Judge.judge_event.Goals as goal

pub returns-in-Clock-clause-ok : goal.returns-in-Clock-clause-ok
returns-in-Clock-clause-ok c = search rules
