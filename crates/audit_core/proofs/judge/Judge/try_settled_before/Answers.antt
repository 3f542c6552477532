use Rattle.std.proofs.Common.{refl, ◌+◌, arith}
use Rattle.audit_core.proofs.BeginLaws.{beginning_none, beginning_next, beginning_all, beginning_stops}
use Rattle.audit_core.proofs.TouchLaws.{err_then}
use Rattle.audit_core.proofs.judge.Judge.try_settled_before.Goals as goal

pub loop-i-init : goal.loop-i-init
loop-i-init c = beginning_none (c.args.line + 1) c.args.view c.args.self.now _ refl

pub loop-i-preserved : goal.loop-i-preserved
loop-i-preserved c = beginning_next (c.args.line + 1) c.args.view c.loop-i.i c.settled_at-p.result c.args.self.now c.loop-i.self c.begin_item.new.self c.settled_at-p.ensures c.loop-i.invariant c.in_ok-begin_item.ensures.ok c.in_ok-begin_item.ensures.keeps

pub returns-in_err-begin_item-clause-err : goal.returns-in_err-begin_item-clause-err
returns-in_err-begin_item-clause-err c = err_then c.from_residual.result _ _
    (λ e is. beginning_stops (c.args.line + 1) c.args.view _ c.args.self.now c.loop-i.self c.in_err-begin_item.field-0.0 e is c.loop-i.invariant c.in_err-begin_item.ensures.err)
    c.from_residual.ensures.1

pub returns-clause-ok : goal.returns-clause-ok
returns-clause-ok c = (beginning_all (c.args.line + 1) c.args.view c.loop-i.i _ c.args.self.now c.loop-i.self c.settled_count-i-end.ensures (omega (arith, c.loop-i-test.false)) c.loop-i.invariant).tries
