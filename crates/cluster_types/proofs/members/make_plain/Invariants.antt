use Rattle.std.proofs.Common.{◌≡◌, map, take}
use Rattle.cluster_types.specs.Members.{plain_member}
use Rattle.cluster_types.proofs.members.make_plain.Given as goal

abbrev pub invariant-loop-i : goal.invariant-loop-i
invariant-loop-i l = take l.i l.places ≡ map plain_member (take l.i l.ids)
