use Rattle.std.proofs.Common.{refl, arith}
use Rattle.audit_core.specs.Emptied.{written_list}
use Rattle.audit_core.specs.Known.{kept_view}
use Rattle.audit_core.proofs.EmptyLaws.{emptying_none, emptying_stops, member_next, members_first, members_done, no_members}
use Rattle.audit_core.proofs.TouchLaws.{err_then}
use Rattle.audit_core.proofs.judge.Judge.try_empty.Goals as goal

pub returns-in_err-try_written-clause-err : goal.returns-in_err-try_written-clause-err
returns-in_err-try_written-clause-err c = err_then c.from_residual.result _ _
    (λ e is. emptying_stops c.args.master c.args.view _ c.args.self.now c.args.self.now c.in_err-try_written.field-0.0 e is (emptying_none c.args.master c.args.view c.args.self.now _ refl) c.in_err-try_written.ensures.err)
    c.from_residual.ensures.1

pub returns-in_default-clause-ok : goal.returns-in_default-clause-ok
returns-in_default-clause-ok c = (no_members c.args.master c.args.view c.args.self.now c.try_written.new.self c.members_of.result c.members_of.ensures c.in_default.is
    (record { tries = c.in_ok-try_written.ensures.ok; keeps = c.in_ok-try_written.ensures.keeps })).tries

pub loop-m-init : goal.loop-m-init
loop-m-init c = members_first c.args.master c.args.view (written_list (kept_view c.args.self.now c.args.view)) _ c.args.self.now c.try_written.new.self refl (record { tries = c.in_ok-try_written.ensures.ok; keeps = c.in_ok-try_written.ensures.keeps })

pub loop-m-preserved : goal.loop-m-preserved
loop-m-preserved c = member_next c.args.master c.args.view (written_list (kept_view c.args.self.now c.args.view)) c.as_slice-m-items.result.now c.loop-m.m-index c.m-item.result c.args.self.now c.loop-m.self c.try_member.new.self
    (omega (arith, c.loop-m-test.true)) c.m-item.is c.loop-m.invariant c.in_ok-try_member.ensures.ok c.in_ok-try_member.ensures.keeps

pub returns-in_err-try_member-clause-err : goal.returns-in_err-try_member-clause-err
returns-in_err-try_member-clause-err c = err_then c.from_residual-in_err-try_member.result _ _
    (λ e is. emptying_stops c.args.master c.args.view _ c.args.self.now c.loop-m.self c.in_err-try_member.field-0.0 e is c.loop-m.invariant c.in_err-try_member.ensures.err)
    c.from_residual-in_err-try_member.ensures.1

pub returns-clause-ok : goal.returns-clause-ok
returns-clause-ok c = (members_done c.args.master c.args.view _ c.as_slice-m-items.result.now c.loop-m.m-index c.args.self.now c.try_written.new.self c.loop-m.self c.members_of.result
    c.in_ok-try_written.ensures.keeps c.members_of.ensures c.in-Some.is c.as_slice-m-items.ensures.same (omega (arith, c.loop-m-test.false)) c.loop-m.invariant).tries
