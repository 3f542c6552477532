use Rattle.std.proofs.Common.{◌≡◌, take}
use Rattle.partition_lists.proofs.view_lists.Lists.list.Given as goal

abbrev pub invariant-loop-n : goal.invariant-loop-n
invariant-loop-n l = l.list ≡ take l.n-index l.n-items
