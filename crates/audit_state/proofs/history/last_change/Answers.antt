use Rattle.std.proofs.Common.{rules}
use Rattle.audit_state.proofs.history.last_change.Goals as goal

pub returns : goal.returns
returns c = search rules
