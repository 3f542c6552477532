use Rattle.std.proofs.Common.{◌≡◌, filter, take}
use Rattle.cluster_rules.specs.World.{is_up}
use Rattle.world.specs.Steps.{standing}
use Rattle.world.proofs.world.World.up_among.Given as goal

abbrev pub invariant-loop-id : goal.invariant-loop-id
invariant-loop-id l = l.up ≡ filter (is_up (standing l.self)) (take l.id-index l.id-items)
