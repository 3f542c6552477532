use Rattle.std.proofs.Common.{rules}
use Rattle.audit_state.proofs.copies.list_unless.Goals as goal

pub returns-in_ok-push : goal.returns-in_ok-push
returns-in_ok-push c = search rules
