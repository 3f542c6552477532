use Rattle.std.proofs.Common.{◌≡◌, ◌<◌, ◌≤◌, ◌+◌, ℕ}
use Rattle.std.specs.Int.{bit_at}
use Rattle.std.specs.Prelude.{slice_index}
use Rattle.progress.proofs.counts.recount_byte.Given as goal

abbrev pub invariant-loop-b : goal.invariant-loop-b
invariant-loop-b l = record {
  done : (k : ℕ) → k < l.b → slice_index l.counts k + bit_at l.before k ≡ slice_index l.initial.counts k + bit_at l.after k;
  rest : (k : ℕ) → l.b ≤ k → slice_index l.counts k ≡ slice_index l.initial.counts k;
}
