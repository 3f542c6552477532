use Rattle.audit_core.proofs.PassLaws.{idle_takes}
use Rattle.audit_core.proofs.judge.Judge.pass.Goals as goal

pub returns : goal.returns
returns c = λ i comes. idle_takes c.args.self.now i c.args.l.now comes c.requires
