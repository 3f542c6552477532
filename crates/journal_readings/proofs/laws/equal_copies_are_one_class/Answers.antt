use Rattle.std.proofs.Common.{refl}
use Rattle.journal_readings.proofs.Computing.{computing}
use Rattle.journal_readings.proofs.laws.equal_copies_are_one_class.Goals as goal

pub returns-clause-empty : goal.returns-clause-empty
unfolding computing
returns-clause-empty c = refl

pub returns-clause-open : goal.returns-clause-open
unfolding computing
returns-clause-open c = refl

pub returns-clause-done : goal.returns-clause-done
unfolding computing
returns-clause-done c = refl

pub returns-clause-rows : goal.returns-clause-rows
unfolding computing
returns-clause-rows c = (refl, refl)

pub returns-clause-classes : goal.returns-clause-classes
unfolding computing
returns-clause-classes c = (refl, refl)

pub returns-clause-first : goal.returns-clause-first
unfolding computing
returns-clause-first c = refl

pub returns-clause-sends : goal.returns-clause-sends
unfolding computing
returns-clause-sends c = (refl, refl)
