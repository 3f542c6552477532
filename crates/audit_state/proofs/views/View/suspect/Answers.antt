use Rattle.std.proofs.Common.{rules}
use Rattle.audit_state.proofs.views.View.suspect.Goals as goal

pub returns-clause-suspects : goal.returns-clause-suspects
returns-clause-suspects c = search rules
