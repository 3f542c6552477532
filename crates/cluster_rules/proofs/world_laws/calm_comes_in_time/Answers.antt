use Rattle.cluster_rules.proofs.CalmBounds.{comes_in_time}
use Rattle.cluster_rules.proofs.world_laws.calm_comes_in_time.Goals as goal

pub returns : goal.returns
returns c = comes_in_time
