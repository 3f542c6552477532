use Rattle.std.proofs.Common.{rules}
use Rattle.audit_state.proofs.views.View.master.Goals as goal

pub returns : goal.returns
returns c = search rules
