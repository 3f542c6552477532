use Rattle.cluster_rules.proofs.FrontRuns.{run_is_front, begun_is_front, fronts_allowed, idle_front, idle_not_begun}
use Rattle.cluster_rules.proofs.world_laws.what_stands_is_a_front.Goals as goal

pub returns : goal.returns
returns c = record { whole = run_is_front; begun = begun_is_front; allowed = fronts_allowed; idle = idle_front; not_begun = idle_not_begun }
