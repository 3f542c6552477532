use Rattle.std.proofs.Common.{sym, ap, ◌∙◌, arith}
use Rattle.script_lang.specs.Values.{number}
use Rattle.script_lang.proofs.Digits.{IsChecked, no_text, no_number, a_number}
use Rattle.script_lang.proofs.numbers.number.Goals as goal

pub returns-in_default : goal.returns-in_default
returns-in_default c =
    let ok : IsChecked c.as_slice-digits.result.now =
    record { size = omega arith; digits = sym c.are_digits.ensures ∙ c.if-not-are_digits.false } in
    no_text _ ok c.in_default.ensures.cases.0 ∙ ap number c.as_slice-digits.ensures.same

pub returns-in-Ok-parse : goal.returns-in-Ok-parse
returns-in-Ok-parse c =
    let ok : IsChecked c.as_slice-digits.result.now =
    record { size = omega arith; digits = sym c.are_digits.ensures ∙ c.if-not-are_digits.false } in
    let same = c.in-Ok.ensures.cases.0 in
    a_number _ _ ok (rw same at c.in-Ok-parse.ensures.value.0) ∙ ap number c.as_slice-digits.ensures.same

pub returns-in-Err : goal.returns-in-Err
returns-in-Err c =
    let ok : IsChecked c.as_slice-digits.result.now =
    record { size = omega arith; digits = sym c.are_digits.ensures ∙ c.if-not-are_digits.false } in
    let same = c.in-Ok.ensures.cases.0 in
    no_number _ ok (rw same at c.in-Err.ensures.value.0) ∙ ap number c.as_slice-digits.ensures.same
