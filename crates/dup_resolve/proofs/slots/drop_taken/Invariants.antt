use Rattle.std.proofs.Common.{◌≡◌, ◌≤◌, ◌-◌, ℕ}
use Rattle.std.specs.VecDeque.{deque_len, deque_capacity}
use Rattle.dup_resolve.specs.Places.{AreNumbered, running_of}
use Rattle.dup_resolve.proofs.slots.drop_taken.Given as goal

abbrev pub invariant-loop-slots : goal.invariant-loop-slots
invariant-loop-slots l = record {
  running : running_of l.slots.items ≡ running_of l.initial.slots.items;
  numbers : (opened : ℕ) → deque_len l.initial.slots ≤ opened → AreNumbered (opened - deque_len l.initial.slots) l.initial.slots.items → AreNumbered (opened - deque_len l.slots) l.slots.items;
  len : deque_len l.slots ≤ deque_len l.initial.slots;
  capacity : deque_capacity l.slots ≡ deque_capacity l.initial.slots;
}

abbrev pub decreases-loop-slots : goal.decreases-loop-slots
decreases-loop-slots l = deque_len l.slots
