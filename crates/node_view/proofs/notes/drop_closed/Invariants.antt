use Rattle.std.proofs.Common.{◌≡◌, ◌≤◌, ◌-◌, ℕ}
use Rattle.std.specs.VecDeque.{deque_len, deque_capacity}
use Rattle.node_view.specs.Transactions.{notes_after}
use Rattle.node_view.proofs.notes.drop_closed.Given as goal

abbrev pub invariant-loop-slots : goal.invariant-loop-slots
invariant-loop-slots l = record {
  notes : (opened : ℕ) → deque_len l.initial.slots ≤ opened → notes_after (opened - deque_len l.slots) l.slots.items ≡ notes_after (opened - deque_len l.initial.slots) l.initial.slots.items;
  len : deque_len l.slots ≤ deque_len l.initial.slots;
  capacity : deque_capacity l.slots ≡ deque_capacity l.initial.slots;
}

abbrev pub decreases-loop-slots : goal.decreases-loop-slots
decreases-loop-slots l = deque_len l.slots
