use Rattle.std.proofs.Common.{◌≡◌, ◌+◌, ◌++◌, length}
use Rattle.std.specs.VecDeque.Iter.{deque_iter_rest}
use Rattle.net_script.specs.Network.{flying_ids}
use Rattle.net_script.specs.Flights.{numbered}
use Rattle.net_script.proofs.slots.numbers.Given as goal

abbrev pub invariant-loop-slot : goal.invariant-loop-slot
invariant-loop-slot l = record {
  ids : l.ids ++ flying_ids (numbered l.id (deque_iter_rest l.slot-iterator)) ≡ flying_ids (numbered l.before l.slots.items);
  count : l.id + length (deque_iter_rest l.slot-iterator) ≡ l.before + length l.slots.items;
}
