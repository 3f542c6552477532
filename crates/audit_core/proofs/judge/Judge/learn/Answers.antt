use Rattle.std.proofs.lemmas.Result.{on_ok_weaker}
use Rattle.audit_core.proofs.PassLaws.{learn_takes}
use Rattle.audit_core.proofs.judge.Judge.learn.Goals as goal

pub returns : goal.returns
returns c = on_ok_weaker c.mark.result (λ changes. learn_takes c.args.self.now c.mark.new.self c.args.line c.args.node c.args.p changes) c.mark.ensures
