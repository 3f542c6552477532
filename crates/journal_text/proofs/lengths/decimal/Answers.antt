use Rattle.std.proofs.Common.{arith}
use Rattle.journal_text.proofs.LengthLaws.{digits_of_power, digits_of_zero}
use Rattle.journal_text.proofs.lengths.decimal.Goals as goal

pub returns-in-None-clause-len : goal.returns-in-None-clause-len
returns-in-None-clause-len c = omega (arith, digits_of_zero c.args.n c.in-None.ensures.none)

pub returns-in-Some-clause-len : goal.returns-in-Some-clause-len
returns-in-Some-clause-len c =
    omega (arith, digits_of_power c.args.n c.in-Some.power (omega arith) c.in-Some.ensures.power_le c.in-Some.ensures.next_power_gt)
