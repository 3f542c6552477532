use Rattle.std.proofs.Common.{◌≡◌, ◌++◌, length}
use Rattle.std.specs.Prelude.{All}
use Rattle.journal_lines.specs.Proper.{IsProper}
use Rattle.journal_text.specs.Journals.{IsWithin}
use Rattle.journal_text.specs.Text.{text}
use Rattle.audit_core.proofs.lines.lines_of.Given as goal

abbrev pub invariant-loop-rest : goal.invariant-loop-rest
invariant-loop-rest l = record {
  split : text l.journal.lines ++ l.rest ≡ l.fn.bytes;
  proper : All IsProper l.journal.lines;
  within : IsWithin l.journal.lines;
}

abbrev pub decreases-loop-rest : goal.decreases-loop-rest
decreases-loop-rest l = length l.rest
