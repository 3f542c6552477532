use Rattle.std.proofs.Common.{◌≡◌, ◌≤◌, ◌-◌, ℕ}
use Rattle.std.specs.VecDeque.{deque_len, deque_capacity}
use Rattle.open_table.specs.Slots.{items_from}
use Rattle.open_table.proofs.open_table.drop_taken.Given as goal

abbrev pub invariant-loop-slots : goal.invariant-loop-slots
invariant-loop-slots g l = record {
  items : (given : ℕ) → deque_len l.initial.slots ≤ given → items_from (given - deque_len l.slots) l.slots.items ≡ items_from (given - deque_len l.initial.slots) l.initial.slots.items;
  len : deque_len l.slots ≤ deque_len l.initial.slots;
  capacity : deque_capacity l.slots ≡ deque_capacity l.initial.slots;
}

abbrev pub decreases-loop-slots : goal.decreases-loop-slots
decreases-loop-slots g l = deque_len l.slots
