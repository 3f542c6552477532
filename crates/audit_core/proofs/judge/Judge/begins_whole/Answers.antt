use Rattle.std.proofs.Common.{rules}
use Rattle.audit_core.proofs.judge.Judge.begins_whole.Goals as goal

pub returns-then-is_empty_everywhere : goal.returns-then-is_empty_everywhere
returns-then-is_empty_everywhere c = search rules

pub returns-else-is_empty_everywhere : goal.returns-else-is_empty_everywhere
returns-else-is_empty_everywhere c = search rules
