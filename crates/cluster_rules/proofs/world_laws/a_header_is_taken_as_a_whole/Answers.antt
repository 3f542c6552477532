use Rattle.std.proofs.Common.{refl}
use Rattle.cluster_rules.proofs.Walk.{walking}
use Rattle.cluster_rules.proofs.world_laws.a_header_is_taken_as_a_whole.Goals as goal

pub returns-clause-nodes : goal.returns-clause-nodes
returns-clause-nodes c = refl

pub returns-clause-racks : goal.returns-clause-racks
returns-clause-racks c = (refl, refl)

pub returns-clause-each : goal.returns-clause-each
returns-clause-each c = (refl, refl, refl)

pub returns-clause-lines : goal.returns-clause-lines
returns-clause-lines c = refl

pub returns-clause-plain : goal.returns-clause-plain
unfolding walking
returns-clause-plain c = refl

pub returns-clause-quiesced : goal.returns-clause-quiesced
unfolding walking
returns-clause-quiesced c = refl

pub returns-clause-rising : goal.returns-clause-rising
returns-clause-rising c = refl
