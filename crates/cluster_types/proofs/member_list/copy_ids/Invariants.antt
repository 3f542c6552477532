use Rattle.std.proofs.Common.{◌≡◌, take}
use Rattle.cluster_types.specs.Members.{ids_of}
use Rattle.cluster_types.proofs.member_list.copy_ids.Given as goal

abbrev pub invariant-loop-i : goal.invariant-loop-i
invariant-loop-i l = take l.i l.ids ≡ ids_of (take l.i l.list)
