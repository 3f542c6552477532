use Rattle.std.proofs.Common.{rules}
use Rattle.audit_core.proofs.judge.Judge.entry_content.Goals as goal

pub returns-in-Some : goal.returns-in-Some
returns-in-Some c = search rules
