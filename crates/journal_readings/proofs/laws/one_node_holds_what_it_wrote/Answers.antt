use Rattle.std.proofs.Common.{refl}
use Rattle.journal_readings.proofs.Computing.{computing}
use Rattle.journal_readings.proofs.laws.one_node_holds_what_it_wrote.Goals as goal

pub returns-clause-content : goal.returns-clause-content
unfolding computing
returns-clause-content c = refl

pub returns-clause-applied : goal.returns-clause-applied
unfolding computing
returns-clause-applied c = refl

pub returns-clause-entry : goal.returns-clause-entry
unfolding computing
returns-clause-entry c = refl

pub returns-clause-folded : goal.returns-clause-folded
unfolding computing
returns-clause-folded c = refl

pub returns-clause-view : goal.returns-clause-view
unfolding computing
returns-clause-view c = refl

pub returns-clause-keys : goal.returns-clause-keys
unfolding computing
returns-clause-keys c = (refl, refl)

pub returns-clause-settled : goal.returns-clause-settled
unfolding computing
returns-clause-settled c = refl

pub returns-clause-stamp : goal.returns-clause-stamp
unfolding computing
returns-clause-stamp c = refl
