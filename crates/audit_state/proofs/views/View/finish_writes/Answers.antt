use Rattle.std.proofs.Common.{rules}
use Rattle.audit_state.proofs.views.View.finish_writes.Goals as goal

pub returns-clause-finishes : goal.returns-clause-finishes
returns-clause-finishes c = search rules
