use Rattle.cluster_rules.proofs.NeverCalm.{never_calm, not_reached, within_calm}
use Rattle.cluster_rules.proofs.world_laws.a_calm_that_never_comes_is_not_reached.Goals as goal

pub returns : goal.returns
returns c = record { never = never_calm; within = within_calm; reached = not_reached }
