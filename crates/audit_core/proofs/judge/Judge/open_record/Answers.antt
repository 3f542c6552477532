use Rattle.audit_core.proofs.OpenLaws.{knows_open}
use Rattle.audit_core.proofs.judge.Judge.open_record.Goals as goal

pub returns-clause-knows : goal.returns-clause-knows
returns-clause-knows c = λ i knows. knows_open c.args.self.now c.«open».new.self i c.in_ok-number.number c.args.digest.now c.in_ok-number.ensures.opens c.in_ok-number.ensures.numbered knows
