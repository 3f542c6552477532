use Rattle.std.proofs.Common.{refl, arith}
use Rattle.audit_core.specs.Emptied.{written_list}
use Rattle.audit_core.specs.Known.{kept_view}
use Rattle.audit_core.proofs.EmptyLaws.{emptying_none, emptying_next, emptying_all, emptying_stops, written_read}
use Rattle.audit_core.proofs.TouchLaws.{err_then}
use Rattle.audit_core.proofs.judge.Judge.try_written.Goals as goal

pub loop-i-init : goal.loop-i-init
loop-i-init c = emptying_none c.args.master c.args.view c.args.self.now _ refl

pub loop-i-preserved : goal.loop-i-preserved
loop-i-preserved c = emptying_next c.args.master c.args.view (written_list (kept_view c.args.self.now c.args.view)) c.loop-i.i c.written_at-number.result c.args.self.now c.loop-i.self c.try_item.new.self
    (written_read c.args.self.now c.loop-i.self c.args.view c.loop-i.i _ c.loop-i.invariant.keeps c.written_at-number.ensures) c.loop-i.invariant c.in_ok-try_item.ensures.ok c.in_ok-try_item.ensures.keeps

pub returns-in_err-try_item-clause-err : goal.returns-in_err-try_item-clause-err
returns-in_err-try_item-clause-err c = err_then c.from_residual.result _ _
    (λ e is. emptying_stops c.args.master c.args.view _ c.args.self.now c.loop-i.self c.in_err-try_item.field-0.0 e is c.loop-i.invariant c.in_err-try_item.ensures.err)
    c.from_residual.ensures.1

pub returns-clause-ok : goal.returns-clause-ok
returns-clause-ok c = (emptying_all c.args.master c.args.view (written_list (kept_view c.args.self.now c.args.view)) c.loop-i.i _ c.args.self.now c.loop-i.self c.written_count-i-end.ensures (omega (arith, c.loop-i-test.false)) c.loop-i.invariant).tries
