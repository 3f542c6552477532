use Rattle.std.proofs.Common.{refl}
use Rattle.node_rules.specs.Standing.{knows_all_settled}
use Rattle.node_rules.proofs.laws.progress_is_answered_once_all_is_settled.Goals as goal

pub returns-clause-settled : goal.returns-clause-settled
unfolding knows_all_settled
returns-clause-settled c = refl

pub returns-clause-unsettled : goal.returns-clause-unsettled
unfolding knows_all_settled
returns-clause-unsettled c = refl
