use Rattle.node_rules.proofs.SettlingLaws.{live_are_enough}
use Rattle.node_rules.proofs.laws.live_partitions_are_enough.Goals as goal

pub returns : goal.returns
returns c = live_are_enough
