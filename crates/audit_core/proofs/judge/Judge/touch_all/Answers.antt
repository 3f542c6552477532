use Rattle.std.proofs.Common.{refl, rules}
use Rattle.audit_core.proofs.TouchedLaws.{touching_none, touching_next, touching_stops}
use Rattle.audit_core.proofs.TouchLaws.{err_then}
use Rattle.audit_core.proofs.judge.Judge.touch_all.Goals as goal

pub loop-number-init : goal.loop-number-init
loop-number-init c = touching_none _ c.args.p c.args.self.now _ refl

pub loop-number-preserved : goal.loop-number-preserved
loop-number-preserved c = touching_next c.args.self.now c.loop-number.self c.touch_at.new.self c.args.node c.args.p c.args.numbers.now c.loop-number.number-index _
    c.loop-number-test.true (search rules) c.loop-number.invariant c.in_ok-touch_at.ensures.ok c.in_ok-touch_at.ensures.keeps

pub returns-in_err-touch_at-clause-err : goal.returns-in_err-touch_at-clause-err
returns-in_err-touch_at-clause-err c = err_then c.from_residual.result _ _
    (λ e is. touching_stops c.args.self.now c.loop-number.self c.args.node c.args.p c.args.numbers.now c.loop-number.number-index _ c.in_err-touch_at.field-0.0 e is c.loop-number-test.true (search rules) c.loop-number.invariant c.in_err-touch_at.ensures.err)
    c.from_residual.ensures.1
