use Rattle.std.proofs.Common.{◌≡◌, ◌<◌, ◌≤◌, ℕ, get_or}
use Rattle.std.specs.Int.{w8, bit_not}
use Rattle.cluster_types.proofs.row.turn.Given as goal

abbrev pub invariant-loop-byte : goal.invariant-loop-byte
invariant-loop-byte l = record {
  done : (k : ℕ) → k < l.byte-index → get_or l.bytes k 0 ≡ bit_not w8 (get_or l.fn.bytes k 0);
  rest : (k : ℕ) → l.byte-index ≤ k → get_or l.bytes k 0 ≡ get_or l.fn.bytes k 0;
}
