use Rattle.std.proofs.Common.{◌≡◌, length}
use Rattle.std.specs.VecDeque.Iter.{deque_iter_rest}
use Rattle.dup_resolve.specs.Places.{running_of}
use Rattle.dup_resolve.proofs.walk.OpenTxnsIterator.next.Given as goal

abbrev pub invariant-loop-slot : goal.invariant-loop-slot
invariant-loop-slot l = running_of (deque_iter_rest l.self-inside.slots) ≡ running_of (deque_iter_rest l.initial.self-inside.slots)

abbrev pub decreases-loop-slot : goal.decreases-loop-slot
decreases-loop-slot l = length (deque_iter_rest l.self-inside.slots)
