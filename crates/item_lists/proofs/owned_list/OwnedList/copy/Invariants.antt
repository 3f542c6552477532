use Rattle.std.proofs.Common.{◌≡◌, ◌++◌}
use Rattle.std.specs.VecDeque.Iter.{deque_iter_rest}
use Rattle.item_lists.proofs.owned_list.OwnedList.copy.Given as goal

-- what is copied and what is left are the whole list
abbrev pub invariant-loop-item : goal.invariant-loop-item
invariant-loop-item g l = l.copy ++ deque_iter_rest l.item-iterator ≡ l.self
