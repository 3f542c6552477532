use Rattle.audit_laws.proofs.Steps.{lawful_fronts}
use Rattle.audit_laws.proofs.laws.fronts_keep_the_laws.Goals as goal

pub returns : goal.returns
returns c = lawful_fronts
