use Rattle.std.proofs.Common.{sym, arith, ◌∙◌}
use Rattle.cluster_top.proofs.NumberLaws.{is_no_number}
use Rattle.cluster_top.proofs.words.number_of.Goals as goal

pub returns-in-Err-clause-none : goal.returns-in-Err-clause-none
returns-in-Err-clause-none c = λ _ n h.
    is_no_number c.args.text.now n (record { size = omega arith; digits = sym c.are_digits.ensures ∙ c.if-not-are_digits.false }) c.in-Err.ensures.value.0 h
