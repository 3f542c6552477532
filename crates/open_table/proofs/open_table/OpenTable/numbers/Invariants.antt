use Rattle.std.proofs.Common.{◌≡◌, ◌<◌, ◌+◌, ◌^◌, ◌++◌, length, map}
use Rattle.std.specs.VecDeque.Iter.{deque_iter_rest}
use Rattle.open_table.specs.Slots.{items_from}
use Rattle.open_table.proofs.open_table.OpenTable.numbers.Given as goal

abbrev pub invariant-loop-slot : goal.invariant-loop-slot
invariant-loop-slot g l = record {
  items : l.numbers ++ map (λ x. x.0) (items_from l.number (deque_iter_rest l.slot-iterator)) ≡ map (λ x. x.0) l.self.items;
  bound : l.number + length (deque_iter_rest l.slot-iterator) < 2 ^ 32;
}
