use Rattle.audit_core.proofs.EnterLaws.{enters_view}
use Rattle.audit_core.proofs.EntryLaws.{enter_next}
use Rattle.audit_core.proofs.judge.Judge.take_entry.Goals as goal

pub returns-clause-frame : goal.returns-clause-frame
returns-clause-frame c = enter_next c.args.line c.args.node c.args.key c.args.members c.args.self.now _ _ _ c.in_ok-open_view.ensures c.in_ok-note_entry.ensures c.move_to.ensures

pub returns-clause-enters : goal.returns-clause-enters
returns-clause-enters c = enters_view c.args.line c.args.node c.args.key c.args.members c.args.self.now _ _ _ c.in_ok-open_view.ensures c.in_ok-note_entry.ensures c.move_to.ensures
