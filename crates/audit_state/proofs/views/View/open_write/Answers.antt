use Rattle.std.proofs.Common.{rules}
use Rattle.audit_state.proofs.views.View.open_write.Goals as goal

pub returns-clause-opens : goal.returns-clause-opens
returns-clause-opens c = search rules
