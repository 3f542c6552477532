use Rattle.std.proofs.Common.{◌≡◌, true, false, Some, sym, ap, subst, ◌∙◌, arith}
use Rattle.std.proofs.lemmas.Result.{on_ok_weaker}
use Rattle.audit_laws.proofs.Tests.{differ}
use Rattle.audit_core.specs.Replicas.{StopsReplica}
use Rattle.audit_core.proofs.PassLaws.{if_err_then}
use Rattle.audit_core.proofs.TouchLaws.{err_then}
use Rattle.audit_core.proofs.TrialLaws.{replica_absent, replica_none, replica_joins, replica_less, replica_written, replica_more}
use Rattle.audit_core.proofs.judge.Judge.try_replica.Goals as goal

pub returns-then-not-is_in_view-clause-ok : goal.returns-then-not-is_in_view-clause-ok
returns-then-not-is_in_view-clause-ok c =
    let off : c.is_in_view.result ≡ false = grind (arith, c.if-not-is_in_view.true) in
    replica_absent c.args.now c.args.view c.args.node c.args.p c.args.self.now (λ present. differ (c.is_in_view.ensures.1 present) off)

pub returns-in_default-clause-ok : goal.returns-in_default-clause-ok
returns-in_default-clause-ok c = replica_none c.args.now c.args.view c.args.node c.args.p c.args.self.now (sym c.in_default.ensures)

pub returns-in_err-try_entries-clause-err : goal.returns-in_err-try_entries-clause-err
returns-in_err-try_entries-clause-err c =
    let on : c.is_in_view.result ≡ true = grind (arith, c.if-not-is_in_view.false) in
    err_then c.from_residual.result _ _
    (λ e is. subst (StopsReplica c.args.now c.args.view c.args.node c.args.p c.args.self.now) (sym is)
    (replica_less c.args.now c.args.view c.args.node c.args.p c.as_slice.result.now c.args.self.now c.in_err-try_entries.field-0.0 (c.is_in_view.ensures.0 on)
    (sym c.in-Some.ensures ∙ ap Some (sym c.as_slice.ensures.same)) c.in_err-try_entries.ensures.err))
    c.from_residual.ensures.1

pub returns-in_err-demand-clause-err : goal.returns-in_err-demand-clause-err
returns-in_err-demand-clause-err c =
    let on : c.is_in_view.result ≡ true = grind (arith, c.if-not-is_in_view.false) in
    err_then c.from_residual-in_err-demand.result _ _
    (λ e is. replica_written c.args.now c.args.view c.args.node c.args.p c.args.self.now c.try_entries.new.self c.holds_written.result e (c.is_in_view.ensures.0 on) c.in_ok-try_entries.ensures.keeps c.holds_written.ensures
    c.in_err-demand.ensures.err.1 (is ∙ c.in_err-demand.ensures.err.0))
    c.from_residual-in_err-demand.ensures.1

pub returns-clause-ok : goal.returns-clause-ok
returns-clause-ok c =
    let on : c.is_in_view.result ≡ true = grind (arith, c.if-not-is_in_view.false) in
    on_ok_weaker c.demand-2.result
    (λ ends. replica_joins c.args.now c.args.view c.args.node c.args.p c.as_slice.result.now c.args.self.now c.try_entries.new.self c.holds_written.result c.holds_no_more.result (c.is_in_view.ensures.0 on)
    (sym c.in-Some.ensures ∙ ap Some (sym c.as_slice.ensures.same)) c.in_ok-try_entries.ensures.keeps c.in_ok-try_entries.ensures.ok c.holds_written.ensures c.in_ok-demand.ensures.ok c.holds_no_more.ensures ends)
    c.demand-2.ensures.ok

pub returns-clause-keeps : goal.returns-clause-keeps
returns-clause-keeps c = on_ok_weaker c.demand-2.result (λ ends. c.in_ok-try_entries.ensures.keeps) c.demand-2.ensures.ok

pub returns-clause-err : goal.returns-clause-err
returns-clause-err c =
    let on : c.is_in_view.result ≡ true = grind (arith, c.if-not-is_in_view.false) in
    if_err_then c.demand-2.result _ _
    (λ x h. replica_more c.args.now c.args.view c.args.node c.args.p c.args.self.now c.try_entries.new.self c.holds_no_more.result x (c.is_in_view.ensures.0 on) c.in_ok-try_entries.ensures.keeps c.holds_no_more.ensures h.1 h.0)
    c.demand-2.ensures.err
