use Rattle.std.proofs.Common.{◌≡◌, ◌≤◌, ◌<◌, ℕ, All, AllPairs}
use Rattle.std.specs.VecDeque.{deque_len, deque_capacity}
use Rattle.write_path.specs.Numbered.{numbers_of}
use Rattle.write_path.proofs.seen.close_gap.Given as goal

abbrev pub invariant-loop-upto : goal.invariant-loop-upto
invariant-loop-upto l = record {
  numbers : numbers_of l.upto l.above.items ≡ numbers_of l.initial.upto l.initial.above.items;
  rising : AllPairs (λ (a b : ℕ). a < b) l.above.items;
  past : All (λ (n : ℕ). l.upto < n) l.above.items;
  room : deque_capacity l.above ≡ deque_capacity l.initial.above;
  len : deque_len l.above ≤ deque_len l.initial.above;
}

abbrev pub decreases-loop-upto : goal.decreases-loop-upto
decreases-loop-upto l = deque_len l.above
