use Rattle.std.proofs.Common.{◌+◌, Option, subst}
use Rattle.std.proofs.lemmas.Result.{on_ok_weaker}
use Rattle.audit_core.specs.Settling.{stand_at}
use Rattle.audit_core.proofs.FinishLaws.{ends_open, ends_stop, ends_no_memory, ended_ok, ended_keeps, write_keeps}
use Rattle.audit_core.proofs.PassLaws.{if_err_then}
use Rattle.audit_core.proofs.TouchLaws.{err_then}
use Rattle.audit_core.proofs.judge.Judge.end_write.Goals as goal
use Rattle.audit_state.specs.declared.writes.Doubts.{Doubts}
use Rattle.audit_state.specs.OpenWrites.{IsToTry}

pub returns-in_err-doubts-clause-err : goal.returns-in_err-doubts-clause-err
returns-in_err-doubts-clause-err c =
    err_then c.from_residual.result _ _
    (λ e is. ends_no_memory c.args.self.now (c.args.line + 1) c.args.p c.args.view e is)
    c.from_residual.ensures.1

pub returns-in_default-clause-ok : goal.returns-in_default-clause-ok
returns-in_default-clause-ok c =
    ends_open c.args.self.now c.count_out.new.self
    (c.args.line + 1) c.args.p c.args.view c.in_ok-doubts.ensures.ends
    (subst (λ (o : Option Doubts). IsToTry (stand_at c.args.self.now c.args.view c.args.p) o)
    c.in_default.is c.in_ok-doubts.ensures.doubts)

pub returns-clause-ok : goal.returns-clause-ok
returns-clause-ok c =
    ended_ok c.args.self.now c.count_out.new.self c.try_doubts.new.self
    (c.args.line + 1) c.args.p c.args.view c.in-Some.doubts c.in_ok-doubts.ensures.ends
    (subst (λ (o : Option Doubts). IsToTry (stand_at c.args.self.now c.args.view c.args.p) o)
    c.in-Some.is c.in_ok-doubts.ensures.doubts)
    c.try_doubts.result c.try_doubts.ensures.keeps c.try_doubts.ensures.ok

pub returns-clause-keeps : goal.returns-clause-keeps
returns-clause-keeps c =
    on_ok_weaker c.try_doubts.result
    (λ h. ended_keeps c.args.self.now c.count_out.new.self c.try_doubts.new.self c.args.p
    c.args.view c.in_ok-doubts.ensures.ends h) c.try_doubts.ensures.keeps

pub returns-in_default-clause-keeps : goal.returns-in_default-clause-keeps
returns-in_default-clause-keeps c =
    write_keeps c.args.self.now c.count_out.new.self c.args.p c.args.view
    c.in_ok-doubts.ensures.ends

pub returns-clause-err : goal.returns-clause-err
returns-clause-err c = if_err_then c.try_doubts.result _ _
    (λ x h. ends_stop c.args.self.now c.count_out.new.self
    (c.args.line + 1) c.args.p c.args.view c.in-Some.doubts x c.in_ok-doubts.ensures.ends
    (subst (λ (o : Option Doubts). IsToTry (stand_at c.args.self.now c.args.view c.args.p) o)
    c.in-Some.is c.in_ok-doubts.ensures.doubts) h)
    c.try_doubts.ensures.err
