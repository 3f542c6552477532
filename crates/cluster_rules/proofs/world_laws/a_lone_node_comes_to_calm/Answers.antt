use Rattle.std.proofs.Common.{ap, ◌+◌}
use Rattle.std.specs.Cmp.Lexicographic.{slice_cmp}
use Rattle.std.specs.FinMap.{len-empty}
use Rattle.std.specs.Ordering.{nat_cmp}
use Rattle.conflict_order.specs.declared.version.Version.{Version}
use Rattle.cluster_rules.proofs.OneCalm.{runs, three_are_few}
use Rattle.cluster_rules.proofs.WorldComputing.{world_computing}
use Rattle.cluster_rules.proofs.Walk.{walking}
use Rattle.cluster_rules.proofs.world_laws.a_lone_node_comes_to_calm.Goals as goal

pub returns-clause-runs : goal.returns-clause-runs
returns-clause-runs c = runs

pub returns-clause-few : goal.returns-clause-few
returns-clause-few c = three_are_few

pub returns-clause-limit : goal.returns-clause-limit
unfolding world_computing walking
returns-clause-limit c = (ap (λ k. 256 + (0 + k) + 0) (len-empty (slice_cmp nat_cmp) Version), ap (λ k. 256 + (0 + k) + 1) (len-empty (slice_cmp nat_cmp) Version))
