use Rattle.std.proofs.Common.{take}
use Rattle.cluster_types.specs.Distinct.{AreDistinct}
use Rattle.cluster_types.proofs.node_list.first_repeat.Given as goal

abbrev pub invariant-loop-i : goal.invariant-loop-i
invariant-loop-i l = AreDistinct (take l.i l.ids)
