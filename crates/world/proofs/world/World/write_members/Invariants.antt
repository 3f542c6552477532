use Rattle.std.proofs.Common.{◌≡◌, take}
use Rattle.cluster_rules.specs.World.{members_now}
use Rattle.world.specs.Steps.{standing}
use Rattle.world.proofs.world.World.write_members.Given as goal

abbrev pub invariant-loop-place : goal.invariant-loop-place
invariant-loop-place l = take l.place l.members ≡ members_now (standing l.self) (take l.place l.ids)
