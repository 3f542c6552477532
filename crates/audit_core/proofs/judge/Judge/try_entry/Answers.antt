use Rattle.std.proofs.Common.{sym}
use Rattle.std.proofs.lemmas.Result.{on_ok_weaker}
use Rattle.audit_core.proofs.PassLaws.{if_err_then}
use Rattle.audit_core.proofs.TouchLaws.{err_then}
use Rattle.audit_core.proofs.TrialLaws.{no_entry, entry_covered, entry_less, entry_no_memory}
use Rattle.audit_core.proofs.judge.Judge.try_entry.Goals as goal

pub returns-in_default-clause-ok : goal.returns-in_default-clause-ok
returns-in_default-clause-ok c = no_entry c.args.now c.args.view c.args.node c.args.member c.args.p c.args.self.now (sym c.in_default.ensures)

pub returns-in_err-holds-clause-err : goal.returns-in_err-holds-clause-err
returns-in_err-holds-clause-err c = err_then c.from_residual.result _ _ (λ e is. entry_no_memory c.args.now c.args.view c.args.node c.args.member c.args.p c.args.self.now e is) c.from_residual.ensures.1

pub returns-clause-ok : goal.returns-clause-ok
returns-clause-ok c = on_ok_weaker c.demand.result
    (λ passes. entry_covered c.args.now c.args.view c.args.node c.args.member c.in-Some.entry c.args.p c.in_ok-holds.holds c.args.self.now c.covers.new.self (sym c.in-Some.ensures) c.in_ok-holds.ensures.covers passes)
    c.demand.ensures.ok

pub returns-clause-keeps : goal.returns-clause-keeps
returns-clause-keeps c = on_ok_weaker c.demand.result (λ passes. c.in_ok-holds.ensures.keeps) c.demand.ensures.ok

pub returns-clause-err : goal.returns-clause-err
returns-clause-err c = if_err_then c.demand.result _ _
    (λ x h. entry_less c.args.now c.args.view c.args.node c.args.member c.in-Some.entry c.args.p c.in_ok-holds.holds c.args.self.now c.covers.new.self x (sym c.in-Some.ensures) c.in_ok-holds.ensures.covers h.1 h.0)
    c.demand.ensures.err
