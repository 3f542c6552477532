use Rattle.std.proofs.Common.{◌≡◌, drop}
use Rattle.std.specs.Prelude.{filter_map}
use Rattle.cluster_rules.specs.Opening.{rack_in}
use Rattle.world.proofs.opening.declared_rack.Given as goal

abbrev pub invariant-loop-line : goal.invariant-loop-line
invariant-loop-line l = filter_map (rack_in l.id) (drop l.line-index l.header) ≡ filter_map (rack_in l.id) l.header
