use Rattle.std.proofs.Common.{refl}
use Rattle.journal_readings.proofs.Computing.{computing}
use Rattle.journal_readings.proofs.laws.sides_hand_on.Goals as goal

pub returns-clause-list : goal.returns-clause-list
unfolding computing
returns-clause-list c = refl

pub returns-clause-acting : goal.returns-clause-acting
unfolding computing
returns-clause-acting c = (refl, refl)

pub returns-clause-entries : goal.returns-clause-entries
unfolding computing
returns-clause-entries c = (refl, refl)

pub returns-clause-folded : goal.returns-clause-folded
unfolding computing
returns-clause-folded c = refl

pub returns-clause-unsettled : goal.returns-clause-unsettled
unfolding computing
returns-clause-unsettled c = refl

pub returns-clause-pending : goal.returns-clause-pending
unfolding computing
returns-clause-pending c = (refl, refl)

pub returns-clause-none_out : goal.returns-clause-none_out
unfolding computing
returns-clause-none_out c = refl

pub returns-clause-out : goal.returns-clause-out
unfolding computing
returns-clause-out c = refl

pub returns-clause-still_pending : goal.returns-clause-still_pending
unfolding computing
returns-clause-still_pending c = refl

pub returns-clause-merged : goal.returns-clause-merged
unfolding computing
returns-clause-merged c = (refl, refl)

pub returns-clause-acked : goal.returns-clause-acked
unfolding computing
returns-clause-acked c = (refl, refl)
