use Rattle.std.proofs.Common.{refl}
use Rattle.journal_readings.proofs.Computing.{computing}
use Rattle.journal_readings.proofs.laws.a_gap_leaves_a_copy_alone.Goals as goal

pub returns-clause-rows : goal.returns-clause-rows
unfolding computing
returns-clause-rows c = (refl, refl)

pub returns-clause-classes : goal.returns-clause-classes
unfolding computing
returns-clause-classes c = (refl, refl)

pub returns-clause-sends : goal.returns-clause-sends
unfolding computing
returns-clause-sends c = (refl, refl)

pub returns-clause-pending : goal.returns-clause-pending
unfolding computing
returns-clause-pending c = (refl, refl, refl)

pub returns-clause-open : goal.returns-clause-open
unfolding computing
returns-clause-open c = refl
