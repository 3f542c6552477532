use Rattle.std.proofs.Common.{◌≡◌, false, sym, ◌∙◌, arith}
use Rattle.std.specs.Prelude.{nat_lt}
use Rattle.std.proofs.lemmas.Result.{on_ok_weaker}
use Rattle.audit_core.specs.Settling.{stand_at}
use Rattle.audit_core.proofs.PassLaws.{if_err_then}
use Rattle.audit_core.proofs.TouchLaws.{begin_unbound, begin_open, begin_ok, begin_parted, begin_no_memory, err_then, covers_keep}
use Rattle.audit_core.proofs.judge.Judge.begin.Goals as goal

pub returns-then-not-is_bound-clause-ok : goal.returns-then-not-is_bound-clause-ok
returns-then-not-is_bound-clause-ok c = begin_unbound c.args.self.now _ c.args.view c.args.p c.is_bound.result c.is_bound.ensures (grind (arith, c.if-not-is_bound.true))

pub returns-in_err-distrust-clause-err : goal.returns-in_err-distrust-clause-err
returns-in_err-distrust-clause-err c = err_then c.from_residual.result _ _ (λ e is. begin_no_memory c.args.self.now _ e is) c.from_residual.ensures.1

pub returns-then-is_open-clause-ok : goal.returns-then-is_open-clause-ok
returns-then-is_open-clause-ok c = begin_open c.args.self.now _ _ c.args.view c.args.p c.is_bound.result c.is_bound.ensures (grind (arith, c.if-not-is_bound.false)) (sym c.is_open.ensures ∙ grind (arith, c.if-is_open.true)) c.in_ok-distrust.ensures

pub returns-clause-ok : goal.returns-clause-ok
returns-clause-ok c = begin_ok c.args.self.now c.try_all.new.self _ c.args.view c.args.p c.try_all.result c.try_all.ensures.keeps c.try_all.ensures.ok

pub returns-clause-keeps : goal.returns-clause-keeps
returns-clause-keeps c = on_ok_weaker c.try_all.result (λ h. covers_keep c.args.self.now c.try_all.new.self h) c.try_all.ensures.keeps

pub returns-clause-err : goal.returns-clause-err
returns-clause-err c =
    let closed : nat_lt 0 (stand_at c.args.self.now c.args.view c.args.p).open_writes ≡ false = sym c.is_open.ensures ∙ grind (arith, c.if-is_open.false) in
    if_err_then c.try_all.result _ _ (λ e h. begin_parted c.args.self.now _ c.args.view c.args.p c.is_bound.result e c.is_bound.ensures (grind (arith, c.if-not-is_bound.false)) closed h) c.try_all.ensures.err
