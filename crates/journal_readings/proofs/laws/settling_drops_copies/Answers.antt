use Rattle.std.proofs.Common.{refl}
use Rattle.journal_readings.proofs.Computing.{computing}
use Rattle.journal_readings.proofs.laws.settling_drops_copies.Goals as goal

pub returns-clause-settled : goal.returns-clause-settled
unfolding computing
returns-clause-settled c = refl

pub returns-clause-content : goal.returns-clause-content
unfolding computing
returns-clause-content c = (refl, refl)

pub returns-clause-copies : goal.returns-clause-copies
unfolding computing
returns-clause-copies c = (refl, refl)

pub returns-clause-stamps : goal.returns-clause-stamps
unfolding computing
returns-clause-stamps c = (refl, refl)

pub returns-clause-before : goal.returns-clause-before
unfolding computing
returns-clause-before c = (refl, refl)
