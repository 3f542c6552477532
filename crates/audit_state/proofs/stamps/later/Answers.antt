use Rattle.std.proofs.Common.{rules}
use Rattle.audit_state.proofs.stamps.later.Goals as goal

pub returns-then-mark-whole : goal.returns-then-mark-whole
returns-then-mark-whole c = search rules
