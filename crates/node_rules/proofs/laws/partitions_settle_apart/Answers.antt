use Rattle.node_rules.proofs.SettlingLaws.{settled_apart}
use Rattle.node_rules.proofs.laws.partitions_settle_apart.Goals as goal

pub returns : goal.returns
returns c = λ f n p h within. settled_apart n p f h within
