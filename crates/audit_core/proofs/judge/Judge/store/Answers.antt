use Rattle.std.proofs.Common.{Some, take}
use Rattle.journal_readings.specs.Settings.{nodes}
use Rattle.audit_core.proofs.BringLaws.{counts_within, counts_holder, counted_anew, holds_stored}
use Rattle.audit_core.proofs.judge.Judge.store.Goals as goal

pub count-requires-clause-held : goal.count-requires-clause-held
count-requires-clause-held c = counts_holder c.args.self.now c.args.node c.args.number (nodes (take c.args.line c.args.self.now.lines.now)) c.holds_newest-held.result c.requires.counted c.requires.declared c.holds_newest-held.ensures

pub count-requires-clause-room : goal.count-requires-clause-room
count-requires-clause-room c = counts_within c.args.self.now c.args.number c.args.self.now.lines.now c.args.line _ c.requires.counted c.requires.room

pub returns-clause-counted : goal.returns-clause-counted
returns-clause-counted c = counted_anew c.args.self.now c.store.new.self c.count.new.self c.args.node c.args.number (record { line = c.args.line; value = Some c.args.line }) c.holds_newest-held.result c.is_newest-holds.result
    c.in_ok-store.ensures.contents c.count.ensures.newest c.count.ensures.holders c.holds_newest-held.ensures (holds_stored c.args.self.now c.store.new.self c.args.node c.args.number c.args.line c.is_newest-holds.result c.in_ok-store.ensures.contents c.requires.contents c.is_newest-holds.ensures)
    (nodes (take c.args.line c.args.self.now.lines.now)) c.requires.distinct c.requires.declared c.requires.counted
