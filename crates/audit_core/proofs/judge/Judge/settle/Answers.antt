use Rattle.std.proofs.Common.{◌≡◌, true, false, arith}
use Rattle.audit_core.proofs.PassLaws.{if_err_then}
use Rattle.audit_core.proofs.TouchLaws.{err_then}
use Rattle.audit_core.proofs.SettleLaws.{settle_other, settle_again, settled_ok, settle_stops, settle_no_memory}
use Rattle.audit_core.proofs.judge.Judge.settle.Goals as goal

pub returns-then-not-is_master-clause-ok : goal.returns-then-not-is_master-clause-ok
returns-then-not-is_master-clause-ok c =
    let off : c.is_master.result ≡ false = grind (arith, c.if-not-is_master.true) in
    settle_other c.args.self.now c.args.line c.args.node c.args.p c.args.view c.is_master.result c.requires.comes c.is_master.ensures off

pub returns-then-has_settled_line-clause-ok : goal.returns-then-has_settled_line-clause-ok
returns-then-has_settled_line-clause-ok c =
    let on : c.has_settled_line.result ≡ true = grind (arith, c.if-has_settled_line.true) in
    settle_again c.args.self.now c.args.line c.args.node c.args.p c.args.view c.has_settled_line.result c.requires.comes c.has_settled_line.ensures on

pub returns-in_err-note_settled-clause-err : goal.returns-in_err-note_settled-clause-err
returns-in_err-note_settled-clause-err c = err_then c.from_residual.result _ _ (λ e is. settle_no_memory _ _ e is) c.from_residual.ensures.1

pub returns-clause-ok : goal.returns-clause-ok
returns-clause-ok c =
    let on : c.is_master.result ≡ true = grind (arith, c.if-not-is_master.false) in
    settled_ok c.args.self.now c.note_settled.new.self c.begin.new.self c.args.line c.args.node c.args.p c.args.view c.is_master.result c.requires.comes c.is_master.ensures on c.in_ok-note_settled.ensures c.begin.result c.begin.ensures.ok c.begin.ensures.keeps

pub returns-clause-err : goal.returns-clause-err
returns-clause-err c =
    let on : c.is_master.result ≡ true = grind (arith, c.if-not-is_master.false) in
    if_err_then c.begin.result _ _
    (λ x h. settle_stops c.args.self.now c.note_settled.new.self c.args.line c.args.node c.args.p c.args.view c.is_master.result c.requires.comes c.is_master.ensures on c.in_ok-note_settled.ensures x h)
    c.begin.ensures.err
