use Rattle.std.proofs.Common.{refl}
use Rattle.journal_readings.proofs.Computing.{computing}
use Rattle.journal_readings.proofs.laws.unequal_copies_are_two_classes.Goals as goal

pub returns-clause-open : goal.returns-clause-open
unfolding computing
returns-clause-open c = refl

pub returns-clause-counts : goal.returns-clause-counts
unfolding computing
returns-clause-counts c = (refl, refl)

pub returns-clause-rows : goal.returns-clause-rows
unfolding computing
returns-clause-rows c = (refl, refl)

pub returns-clause-class : goal.returns-clause-class
unfolding computing
returns-clause-class c = refl

pub returns-clause-sends : goal.returns-clause-sends
unfolding computing
returns-clause-sends c = (refl, refl)
