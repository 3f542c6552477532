use Rattle.audit_laws.proofs.Steps.{none_lawful, lawful_step}
use Rattle.audit_laws.proofs.laws.laws_go_line_by_line.Goals as goal

pub returns : goal.returns
returns c = record { none = none_lawful; more = lawful_step }
