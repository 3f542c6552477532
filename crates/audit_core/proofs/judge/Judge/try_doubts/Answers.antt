use Rattle.std.proofs.Common.{◌+◌, List, ℕ, subst, arith}
use Rattle.std.proofs.lemmas.Result.{on_ok_weaker}
use Rattle.audit_core.specs.Ending.{JoinsRecords}
use Rattle.audit_core.proofs.FinishLaws.{doubts_unbound, doubts_all, doubts_joined, doubts_parted, doubts_suspected}
use Rattle.audit_core.proofs.PassLaws.{if_err_then}
use Rattle.audit_core.proofs.judge.Judge.try_doubts.Goals as goal

pub returns-then-not-is_bound-clause-ok : goal.returns-then-not-is_bound-clause-ok
returns-then-not-is_bound-clause-ok c =
    doubts_unbound c.args.self.now _ c.args.view c.args.p c.args.doubts.now c.is_bound.result
    c.is_bound.ensures (grind (arith, c.if-not-is_bound.true))

pub returns-then-doubts-clause-ok : goal.returns-then-doubts-clause-ok
returns-then-doubts-clause-ok c =
    on_ok_weaker c.try_all.result
    (λ joins. doubts_all c.args.self.now c.try_all.new.self
    (c.args.line + 1) c.args.view c.args.p c.args.doubts.now joins) c.try_all.ensures.ok

pub returns-then-doubts-clause-err : goal.returns-then-doubts-clause-err
returns-then-doubts-clause-err c = if_err_then c.try_all.result _ _
    (λ x h. doubts_parted c.args.self.now
    (c.args.line + 1) c.args.view c.args.p c.is_bound.result x c.is_bound.ensures
    (grind (arith, c.if-not-is_bound.false)) h)
    c.try_all.ensures.err

pub returns-clause-ok : goal.returns-clause-ok
returns-clause-ok c = on_ok_weaker c.try_suspects.result
    (λ joins. doubts_joined c.args.self.now
    (c.args.line + 1) c.args.view c.args.p c.args.doubts.now c.if-doubts.false
    (subst (λ (ns : List ℕ). JoinsRecords c.args.self.now c.args.view ns c.args.p)
    c.as_slice.ensures.value joins))
    c.try_suspects.ensures.ok

pub returns-clause-err : goal.returns-clause-err
returns-clause-err c = if_err_then c.try_suspects.result _ _
    (λ x h. doubts_suspected c.args.self.now
    (c.args.line + 1) c.args.view c.args.p c.as_slice.result.now c.is_bound.result x
    c.is_bound.ensures (grind (arith, c.if-not-is_bound.false)) h.0 h.1)
    c.try_suspects.ensures.err
