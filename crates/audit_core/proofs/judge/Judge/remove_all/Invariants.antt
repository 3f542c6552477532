use Rattle.std.proofs.Common.{take}
use Rattle.journal_readings.specs.Settings.{nodes}
use Rattle.audit_core.proofs.DropLaws.{Removing}
use Rattle.audit_core.proofs.judge.Judge.remove_all.Given as goal

abbrev pub invariant-loop-number : goal.invariant-loop-number
invariant-loop-number l = Removing l.line l.node l.p (take l.number-index l.fn.dropped) (nodes (take l.line l.fn.self.lines.now)) l.fn.self l.self
