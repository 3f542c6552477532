use Rattle.std.proofs.Common.{◌≤◌, length, sym, subst, arith}
use Rattle.audit_core.specs.Replicas.{StopsEntries}
use Rattle.audit_core.proofs.TouchLaws.{err_then}
use Rattle.audit_core.proofs.TrialLaws.{entries_first, entries_more, entries_part, entries_done}
use Rattle.audit_core.proofs.judge.Judge.try_entries.Goals as goal

pub loop-m-init : goal.loop-m-init
loop-m-init c = entries_first c.args.now c.args.view c.args.node c.args.p c.args.self.now

pub loop-m-preserved : goal.loop-m-preserved
loop-m-preserved c = entries_more c.args.now c.args.view c.args.node c.args.members.now c.m-item.result c.loop-m.m-index c.args.p c.args.self.now c.loop-m.self c.try_entry.new.self
    (omega (arith, c.loop-m-test.true)) c.m-item.is c.loop-m.invariant c.in_ok-try_entry.ensures.ok c.in_ok-try_entry.ensures.keeps

pub returns-in_err-try_entry-clause-err : goal.returns-in_err-try_entry-clause-err
returns-in_err-try_entry-clause-err c = err_then c.from_residual.result _ _
    (λ e is. subst (StopsEntries c.args.now c.args.view c.args.node c.args.members.now c.args.p c.args.self.now) (sym is)
    (entries_part c.args.now c.args.view c.args.node c.args.members.now c.m-item.result c.loop-m.m-index c.args.p c.args.self.now c.loop-m.self c.in_err-try_entry.field-0.0
    (omega (arith, c.loop-m-test.true)) c.m-item.is c.loop-m.invariant c.in_err-try_entry.ensures.err))
    c.from_residual.ensures.1

pub returns-clause-ok : goal.returns-clause-ok
returns-clause-ok c =
    let done : length c.args.members.now ≤ c.loop-m.m-index = omega (arith, c.loop-m-test.false) in
    (entries_done c.args.now c.args.view c.args.node c.args.members.now c.loop-m.m-index c.args.p c.args.self.now c.loop-m.self done c.loop-m.invariant).joins

pub returns-clause-keeps : goal.returns-clause-keeps
returns-clause-keeps c = c.loop-m.invariant.keeps
