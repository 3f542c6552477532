use Rattle.std.proofs.Common.{rules, List, subst, take}
use Rattle.journal_lines.specs.declared.line.Line.{Line}
use Rattle.journal_readings.specs.Settings.{nodes}
use Rattle.audit_core.specs.Holders.{AreHoldersCounted}
use Rattle.audit_core.proofs.DropLaws.{removing_more, still_stand, same_lines}
use Rattle.audit_core.proofs.judge.Judge.remove_all.Goals as goal

pub remove-requires-clause-changes : goal.remove-requires-clause-changes
remove-requires-clause-changes c = still_stand c.args.line c.args.node c.args.p _ _ c.args.self.now c.loop-number.self c.loop-number.invariant c.requires.changes

pub loop-number-preserved : goal.loop-number-preserved
loop-number-preserved c = removing_more c.args.line c.args.node c.args.p c.args.dropped.now (nodes (take c.args.line c.args.self.now.lines.now)) c.args.self.now c.loop-number.self c.remove.new.self c.loop-number.number-index _
    c.loop-number-test.true (search rules) c.requires.contents c.loop-number.invariant c.in_ok-remove.ensures.removes
    (subst (λ (ls : List Line). AreHoldersCounted c.remove.new.self (nodes (take c.args.line ls))) (same_lines c.args.line c.args.node c.args.p _ _ c.args.self.now c.loop-number.self c.loop-number.invariant) c.in_ok-remove.ensures.counted)
