use Rattle.std.proofs.Common.{refl}
use Rattle.cluster_rules.proofs.WorldComputing.{world_computing}
use Rattle.cluster_rules.proofs.Walk.{walking}
use Rattle.cluster_rules.proofs.world_laws.an_event_writes_its_line.Goals as goal

pub returns-clause-clock : goal.returns-clause-clock
unfolding world_computing walking
returns-clause-clock c = (refl, refl, refl)

pub returns-clause-hash : goal.returns-clause-hash
returns-clause-hash c = refl

pub returns-clause-no_map : goal.returns-clause-no_map
unfolding world_computing walking
returns-clause-no_map c = refl

pub returns-clause-down : goal.returns-clause-down
unfolding world_computing walking
returns-clause-down c = (refl, refl, refl, refl)

pub returns-clause-up : goal.returns-clause-up
unfolding world_computing walking
returns-clause-up c = (refl, refl)

pub returns-clause-marks : goal.returns-clause-marks
unfolding world_computing walking
returns-clause-marks c = (refl, refl, refl)

pub returns-clause-rounds : goal.returns-clause-rounds
returns-clause-rounds c = refl

pub returns-clause-unserved : goal.returns-clause-unserved
returns-clause-unserved c = refl

pub returns-clause-round : goal.returns-clause-round
unfolding world_computing walking
returns-clause-round c = refl
