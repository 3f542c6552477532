use Rattle.std.proofs.Common.{refl, ap, take}
use Rattle.std.specs.Prelude.{option_and_then}
use Rattle.std.proofs.lemmas.Result.{on_ok_weaker}
use Rattle.journal_lines.specs.declared.line.Line.TheVariants as line
use Rattle.journal_readings.specs.Settings.{nodes}
use Rattle.audit_state.specs.Places.{brought_version}
use Rattle.audit_state.specs.Records.{newest_of, holders_of}
use Rattle.audit_core.proofs.AppliedLaws.{counted_raised}
use Rattle.audit_core.proofs.KeptLaws.{write_kept}
use Rattle.audit_core.proofs.WriteLaws.{held_under, write_seen, raised_said, holders_said, ready_held, ready_here, next_held, next_stores}
use Rattle.audit_core.proofs.judge.Judge.hold_write.Goals as goal

pub bring-requires-clause-counted : goal.bring-requires-clause-counted
bring-requires-clause-counted c = counted_raised c.args.self.now c.raise.new.self c.args.line c.args.number c.requires.writes.1 (nodes (take c.args.line c.args.self.now.lines.now))
    (ap (option_and_then brought_version) c.requires.writes.2.stands) c.requires.knows.stores.records.holders
    (raised_said c.args.self.now c.versions-versions.result c.args.line c.args.number (newest_of c.args.self.now.records) (newest_of c.raise.new.self) c.versions-versions.ensures.lines c.versions-versions.ensures.policy c.raise.ensures.newest)
    (holders_said c.args.self.now c.versions-versions.result c.args.line c.args.number (newest_of c.args.self.now.records c.args.number) (holders_of c.args.self.now.records) (holders_of c.raise.new.self) c.versions-versions.ensures.lines c.versions-versions.ensures.policy c.raise.ensures.holders)
    (held_under c.args.self.now c.args.line c.args.number c.args.digest.now c.requires.knows c.requires.writes.2.named)

pub returns-clause-stores : goal.returns-clause-stores
returns-clause-stores c =
    on_ok_weaker c.write_in_view.result
    (λ changes. next_stores c.write_in_view.new.self c.args.line c.args.self.now.lines.now
    (write_seen c.args.self.now c.raise.new.self c.bring.new.self c.write_in_view.new.self c.args.line c.args.node c.args.number c.partition_of-p.result c.requires.writes.0 c.args.view c.args.digest.now c.requires.writes.1
    c.requires.knows c.requires.writes.2.stands c.requires.writes.2.named c.raise.ensures.numbers
    (raised_said c.args.self.now c.versions-versions.result c.args.line c.args.number (newest_of c.args.self.now.records) (newest_of c.raise.new.self) c.versions-versions.ensures.lines c.versions-versions.ensures.policy c.raise.ensures.newest)
    c.in_ok-bring.ensures.keeps
    (next_held c.bring.new.self c.args.line (c.in_ok-bring.ensures.sees (line.Apply c.args.node c.args.view c.requires.writes.0 c.args.digest.now c.requires.writes.1) c.args.digest.now c.requires.writes.1
    (ready_here c.args.self.now c.raise.new.self c.args.line c.args.node c.args.number c.partition_of-p.result (line.Apply c.args.node c.args.view c.requires.writes.0 c.args.digest.now c.requires.writes.1) c.args.digest.now c.requires.writes.1
    c.requires.knows c.raise.ensures.numbers c.requires.writes.2.stands (refl, refl, refl) c.requires.writes.2.named c.partition_of-p.ensures)
    (ready_held c.args.self.now c.raise.new.self c.args.line c.requires.knows c.raise.ensures.numbers)))
    c.in_ok-bring.ensures.counted
    changes c.partition_of-p.ensures))
    c.write_in_view.ensures

pub returns-clause-keeps : goal.returns-clause-keeps
returns-clause-keeps c = on_ok_weaker c.write_in_view.result
    (λ changes. write_kept c.args.self.now c.raise.new.self c.bring.new.self c.write_in_view.new.self c.args.line c.args.number c.partition_of-p.result _ c.args.view c.partition_of-p.ensures c.raise.ensures.numbers c.in_ok-bring.ensures.keeps changes)
    c.write_in_view.ensures
