use Rattle.std.proofs.Common.{◌≡◌, false, sym, ◌∙◌, arith}
use Rattle.std.specs.Prelude.{nat_lt}
use Rattle.std.proofs.lemmas.Result.{on_ok_weaker}
use Rattle.audit_core.specs.Settling.{stand_at}
use Rattle.audit_core.proofs.PassLaws.{if_err_then}
use Rattle.audit_core.proofs.TouchLaws.{touch_unbound, touch_open, touch_closed, touch_parted, touch_no_memory, err_then}
use Rattle.audit_core.proofs.judge.Judge.touch.Goals as goal

pub returns-then-not-is_bound-clause-ok : goal.returns-then-not-is_bound-clause-ok
returns-then-not-is_bound-clause-ok c = touch_unbound c.args.self.now c.args.view c.args.number c.args.p c.is_bound.result c.is_bound.ensures (grind (arith, c.if-not-is_bound.true))

pub returns-in_err-suspect-clause-err : goal.returns-in_err-suspect-clause-err
returns-in_err-suspect-clause-err c = err_then c.from_residual.result _ _ (λ e is. touch_no_memory c.args.self.now c.args.number c.args.p e is) c.from_residual.ensures.1

pub returns-then-is_open-clause-ok : goal.returns-then-is_open-clause-ok
returns-then-is_open-clause-ok c = touch_open c.args.self.now _ c.args.view c.args.number c.args.p c.is_bound.result c.is_bound.ensures (grind (arith, c.if-not-is_bound.false)) (sym c.is_open.ensures ∙ grind (arith, c.if-is_open.true)) c.in_ok-suspect.ensures

pub returns-clause-ok : goal.returns-clause-ok
returns-clause-ok c = on_ok_weaker c.try_record.result (λ joins. touch_closed c.args.self.now c.args.view c.args.number c.args.p joins) c.try_record.ensures.ok

pub returns-clause-err : goal.returns-clause-err
returns-clause-err c =
    let closed : nat_lt 0 (stand_at c.args.self.now c.args.view c.args.p).open_writes ≡ false = sym c.is_open.ensures ∙ grind (arith, c.if-is_open.false) in
    if_err_then c.try_record.result _ _ (λ e h. touch_parted c.args.self.now c.args.view c.args.number c.args.p c.is_bound.result e c.is_bound.ensures (grind (arith, c.if-not-is_bound.false)) closed h.0 h.1) c.try_record.ensures.err
