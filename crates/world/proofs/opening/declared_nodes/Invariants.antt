use Rattle.std.proofs.Common.{◌≡◌, ◌++◌, map, drop}
use Rattle.node_rules.specs.Steps.{unplanned}
use Rattle.cluster_rules.specs.World.{declared}
use Rattle.world.proofs.opening.declared_nodes.Given as goal

abbrev pub invariant-loop-id : goal.invariant-loop-id
invariant-loop-id l = l.nodes.items ++ map (λ n. unplanned (declared l.header n)) (drop l.id-index l.ids) ≡ map (λ n. unplanned (declared l.header n)) l.ids
