use Rattle.std.proofs.Common.{◌≡◌, ◌++◌, drop}
use Rattle.cluster_rules.specs.Opening.{declared_nodes}
use Rattle.world.proofs.opening.declared_ids.Given as goal

abbrev pub invariant-loop-line : goal.invariant-loop-line
invariant-loop-line l = l.ids ++ declared_nodes (drop l.line-index l.header) ≡ declared_nodes l.header
