use Rattle.std.proofs.Common.{refl}
use Rattle.cluster_rules.proofs.WorldComputing.{world_computing}
use Rattle.cluster_rules.proofs.world_laws.the_client_goes_by_its_latest_table.Goals as goal

pub returns-clause-none : goal.returns-clause-none
returns-clause-none c = refl

pub returns-clause-some : goal.returns-clause-some
returns-clause-some c = refl

pub returns-clause-greater_key : goal.returns-clause-greater_key
returns-clause-greater_key c = refl

pub returns-clause-moved : goal.returns-clause-moved
returns-clause-moved c = refl

pub returns-clause-first : goal.returns-clause-first
returns-clause-first c = refl

pub returns-clause-asks : goal.returns-clause-asks
unfolding world_computing
returns-clause-asks c = refl

pub returns-clause-table : goal.returns-clause-table
returns-clause-table c = λ w t. (refl, refl)

pub returns-clause-other : goal.returns-clause-other
returns-clause-other c = λ w. (refl, refl)
