use Rattle.std.proofs.Common.{take}
use Rattle.cluster_types.specs.Distinct.{IsDescending}
use Rattle.cluster_types.specs.Members.{ids_of}
use Rattle.cluster_types.proofs.members.first_rise.Given as goal

abbrev pub invariant-loop-i : goal.invariant-loop-i
invariant-loop-i l = IsDescending (take l.i (ids_of l.list))
