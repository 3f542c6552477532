use Rattle.std.proofs.Common.{sym, subst, ◌∙◌}
use Rattle.audit_core.specs.Wholes.{JudgesSome}
use Rattle.audit_core.proofs.JudgeLaws.{opened_some}
use Rattle.audit_core.proofs.judge.Judge.judge_exchanged.Goals as goal

pub loop-i-init : goal.loop-i-init
loop-i-init c =
    subst (λ i. JudgesSome c.args.node c.args.p i c.args.self.now c.open_stamps.new.self) (sym c.in_ok-open_stamps.ensures.here.judged ∙ sym c.judged-i.ensures)
    (opened_some c.args.node c.args.p c.args.self.now c.open_stamps.new.self c.in_ok-open_stamps.ensures c.requires.right)
