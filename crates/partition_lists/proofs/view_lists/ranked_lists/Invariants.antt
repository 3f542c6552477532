use Rattle.std.proofs.Common.{◌≡◌}
use Rattle.partition_lists.specs.ViewLists.{lists_from}
use Rattle.partition_lists.proofs.view_lists.ranked_lists.Given as goal

abbrev pub invariant-loop-number : goal.invariant-loop-number
invariant-loop-number l = l.ids.items ≡ lists_from l.m l.number 0
