use Rattle.audit_core.proofs.EnterLaws.{entered_ok, enter_stops}
use Rattle.audit_core.proofs.PassLaws.{if_err_then}
use Rattle.audit_core.proofs.judge.Judge.enter.Goals as goal

pub returns-clause-ok : goal.returns-clause-ok
returns-clause-ok c = entered_ok c.args.self.now c.take_entry.new.self c.try_settled_before.new.self c.args.line c.args.node c.args.key c.args.members c.requires.comes c.in_ok-take_entry.ensures.enters c.in_ok-take_entry.ensures.frame
    c.try_settled_before.result c.try_settled_before.ensures.ok c.try_settled_before.ensures.keeps

pub returns-clause-err : goal.returns-clause-err
returns-clause-err c = if_err_then c.try_settled_before.result _ _
    (λ x h. enter_stops c.args.self.now c.take_entry.new.self c.args.line c.args.node c.args.key c.args.members c.requires.comes c.in_ok-take_entry.ensures.enters c.in_ok-take_entry.ensures.frame x h)
    c.try_settled_before.ensures.err
