use Rattle.std.proofs.Common.{◌≡◌, take}
use Rattle.cluster_types.specs.Members.{ids_of}
use Rattle.cluster_types.proofs.members.Members.ids.Given as goal

abbrev pub invariant-loop-member : goal.invariant-loop-member
invariant-loop-member l = l.ids ≡ ids_of (take l.member-index l.member-items)
