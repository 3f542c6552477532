use Rattle.std.proofs.Common.{◌≡◌, ◌++◌}
use Rattle.std.specs.VecDeque.Iter.{deque_iter_rest}
use Rattle.dup_resolve.specs.Open.{txn_ends}
use Rattle.dup_resolve.specs.Places.{running_of}
use Rattle.dup_resolve.proofs.slots.Slots.ends.Given as goal

abbrev pub invariant-loop-slot : goal.invariant-loop-slot
invariant-loop-slot l = l.closed ++ txn_ends (running_of (deque_iter_rest l.slot-iterator)) ≡ txn_ends l.self.running
