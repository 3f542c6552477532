use Rattle.std.proofs.Common.{refl}
use Rattle.journal_readings.proofs.Computing.{computing}
use Rattle.journal_readings.proofs.laws.a_message_arrives_whole.Goals as goal

pub returns-clause-delivered : goal.returns-clause-delivered
unfolding computing
returns-clause-delivered c = refl

pub returns-clause-repeated : goal.returns-clause-repeated
unfolding computing
returns-clause-repeated c = refl

pub returns-clause-cut : goal.returns-clause-cut
unfolding computing
returns-clause-cut c = (refl, refl)

pub returns-clause-others : goal.returns-clause-others
unfolding computing
returns-clause-others c = (refl, refl, refl)

pub returns-clause-other_ends : goal.returns-clause-other_ends
unfolding computing
returns-clause-other_ends c = refl
