use Rattle.std.proofs.Common.{◌≡◌, ◌≤◌, ◌-◌, ℕ}
use Rattle.std.specs.VecDeque.{deque_len, deque_capacity}
use Rattle.net_script.specs.Flights.{numbered}
use Rattle.net_script.proofs.slots.drop_taken.Given as goal

abbrev pub invariant-loop-slots : goal.invariant-loop-slots
invariant-loop-slots l = record {
  same : (sent : ℕ) → deque_len l.initial.slots ≤ sent → numbered (sent - deque_len l.slots) l.slots.items ≡ numbered (sent - deque_len l.initial.slots) l.initial.slots.items;
  len : deque_len l.slots ≤ deque_len l.initial.slots;
  capacity : deque_capacity l.slots ≡ deque_capacity l.initial.slots;
}

abbrev pub decreases-loop-slots : goal.decreases-loop-slots
decreases-loop-slots l = deque_len l.slots
