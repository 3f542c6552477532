use Rattle.std.proofs.Common.{refl}
use Rattle.journal_readings.proofs.Computing.{computing}
use Rattle.journal_readings.proofs.laws.the_settled_replica_holds_the_fold.Goals as goal

pub returns-clause-lossless : goal.returns-clause-lossless
unfolding computing
returns-clause-lossless c = refl

pub returns-clause-unlost : goal.returns-clause-unlost
unfolding computing
returns-clause-unlost c = refl

pub returns-clause-views : goal.returns-clause-views
unfolding computing
returns-clause-views c = (refl, refl)

pub returns-clause-closed : goal.returns-clause-closed
unfolding computing
returns-clause-closed c = refl

pub returns-clause-replica : goal.returns-clause-replica
unfolding computing
returns-clause-replica c = (refl, refl)

pub returns-clause-joined : goal.returns-clause-joined
unfolding computing
returns-clause-joined c = refl
