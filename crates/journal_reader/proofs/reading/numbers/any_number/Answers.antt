use Rattle.std.proofs.Common.{arith, sym, ap, ◌∙◌}
use Rattle.std.specs.Str.{bytes_eq}
use Rattle.std.proofs.lemmas.Bool.{eqb-true}
use Rattle.journal_reader.proofs.NumberTexts.{is_zero, no_text, low_first, no_utf8, no_number, a_number}
use Rattle.journal_reader.proofs.reading.numbers.any_number.Goals as goal
use Rattle.journal_reader.proofs.reading.numbers.any_number.Goals.{then-is_empty-via-then-is_empty, then-is_empty-via-else-is_empty+then-text-lt49}

pub returns-then-eq : goal.returns-then-eq
returns-then-eq c = is_zero c.args.text.now (ap (λ t. bytes_eq c.args.text.now t) (sym c.as_slice.ensures) ∙ sym c.if-eq.ensures)

pub returns-then-is_empty : goal.returns-then-is_empty
returns-then-is_empty c =
    elim c.then-is_empty.branch [
      | then-is_empty-via-then-is_empty w ↦ no_text _ (eqb-true _ _ (sym c.is_empty.ensures ∙ w.if-is_empty.true))
      | then-is_empty-via-else-is_empty+then-text-lt49 w ↦
          low_first c.args.text.now (ap (λ t. bytes_eq c.args.text.now t) (sym c.as_slice.ensures) ∙ sym c.if-eq.ensures) (omega arith)
    ]

pub returns-in_default : goal.returns-in_default
returns-in_default c = no_utf8 _ c.in_default.ensures.cases.0

pub returns-in_default-parse : goal.returns-in_default-parse
returns-in_default-parse c =
    let same = c.in-Ok.ensures.cases.0 in
    no_number c.args.text.now (omega arith) (rw same at c.in_default-parse.ensures.value.0)

pub returns : goal.returns
returns c =
    let same = c.in-Ok.ensures.cases.0 in
    a_number c.args.text.now _ (omega arith) (rw same at c.in-Ok-parse.ensures.value.0)
