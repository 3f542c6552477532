use Rattle.std.proofs.Common.{refl}
use Rattle.node_rules.specs.Standing.{knows_all_settled, has_nothing_to_learn_or_drop}
use Rattle.node_rules.proofs.laws.node_is_at_rest_once_all_is_settled.Goals as goal

pub returns-clause-rests : goal.returns-clause-rests
unfolding knows_all_settled has_nothing_to_learn_or_drop
returns-clause-rests c = refl

pub returns-clause-unsettled : goal.returns-clause-unsettled
unfolding knows_all_settled has_nothing_to_learn_or_drop
returns-clause-unsettled c = refl

pub returns-clause-open : goal.returns-clause-open
unfolding knows_all_settled has_nothing_to_learn_or_drop
returns-clause-open c = refl

pub returns-clause-exchanging : goal.returns-clause-exchanging
unfolding knows_all_settled has_nothing_to_learn_or_drop
returns-clause-exchanging c = refl
