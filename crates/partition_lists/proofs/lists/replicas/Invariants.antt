use Rattle.std.proofs.Common.{◌≡◌, take}
use Rattle.partition_lists.proofs.lists.replicas.Given as goal

abbrev pub invariant-loop-n : goal.invariant-loop-n
invariant-loop-n l = l.first ≡ take l.n-index l.n-items
