-- What the call that reads a line answers.
use Rattle.std.proofs.Common.{◌≡◌, ℕ, List, Option, Some, None, Result, Ok, Err, sym, ap, ◌∙◌}
use Rattle.std.specs.Prelude.{IfOk, IfSome}
use Rattle.journal_lines.specs.declared.line.Line.{Line}
use Rattle.journal_lines.specs.Proper.{IsProper}
use Rattle.journal_reader.specs.Reading.{read_line}
use Rattle.journal_text.specs.Text.{line_text}
use Rattle.journal_reader.proofs.LineLaws.{read_back, written_so}

pub read_found : {E : Type 0} (bytes : List ℕ) (r : Result (Option Line) E) → IfOk r (λ l. l ≡ read_line bytes) → IfOk r (λ l. IfSome l (λ m. (line_text m ≡ bytes) × IsProper m))
read_found bytes (Ok None) h = tt
read_found bytes (Ok (Some m)) h = written_so bytes m (sym h)
read_found bytes (Err e) h = tt

pub read_only : {E : Type 0} (bytes : List ℕ) (r : Result (Option Line) E) → IfOk r (λ l. l ≡ read_line bytes)
    → (l : Line) → IsProper l → line_text l ≡ bytes → IfOk r (λ m. m ≡ Some l)
read_only bytes (Ok m) h l p e = h ∙ ap read_line (sym e) ∙ read_back l p
read_only bytes (Err f) h l p e = tt
