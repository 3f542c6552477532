use Rattle.std.proofs.Common.{◌≡◌, take}
use Rattle.cluster_types.specs.Distinct.{without}
use Rattle.cluster_types.proofs.node_list.NodeList.without.Given as goal

abbrev pub invariant-loop-n : goal.invariant-loop-n
invariant-loop-n l = l.kept ≡ without (take l.n-index l.n-items) l.id
