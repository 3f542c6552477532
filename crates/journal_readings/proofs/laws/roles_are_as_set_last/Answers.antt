use Rattle.std.proofs.Common.{refl}
use Rattle.journal_readings.proofs.Computing.{computing}
use Rattle.journal_readings.proofs.laws.roles_are_as_set_last.Goals as goal

pub returns-clause-members : goal.returns-clause-members
unfolding computing
returns-clause-members c = refl

pub returns-clause-up : goal.returns-clause-up
unfolding computing
returns-clause-up c = refl
