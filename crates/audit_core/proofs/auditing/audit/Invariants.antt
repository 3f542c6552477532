use Rattle.std.proofs.Common.{◌≡◌, take}
use Rattle.audit_laws.specs.Lawful.{Lawful}
use Rattle.audit_core.specs.Sees.{SeesJournal}
use Rattle.audit_core.proofs.auditing.audit.Given as goal

abbrev pub invariant-loop-i : goal.invariant-loop-i
invariant-loop-i l = record {
  lines : l.judge.lines.now ≡ l.lines;
  lawful : Lawful (take l.i l.lines);
  sees : SeesJournal l.judge l.i l.lines;
}
