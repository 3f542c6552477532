use Rattle.std.proofs.Common.{rules}
use Rattle.audit_state.proofs.views.View.distrust.Goals as goal

pub returns-clause-distrusts : goal.returns-clause-distrusts
returns-clause-distrusts c = search rules
