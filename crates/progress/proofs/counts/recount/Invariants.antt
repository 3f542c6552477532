use Rattle.std.proofs.Common.{◌≡◌, ◌<◌, ◌≤◌, ◌+◌, ◌*◌, ℕ}
use Rattle.std.specs.Prelude.{slice_index}
use Rattle.cluster_types.specs.Rows.{bit}
use Rattle.cluster_types.specs.RowBytes.{bit_number}
use Rattle.progress.proofs.counts.recount.Given as goal

abbrev pub invariant-loop-i : goal.invariant-loop-i
invariant-loop-i l = record {
  done : (p : ℕ) → p < 8 * l.i → slice_index l.known p + bit_number (bit l.before p) ≡ slice_index l.initial.known p + bit_number (bit l.after p);
  rest : (p : ℕ) → 8 * l.i ≤ p → slice_index l.known p ≡ slice_index l.initial.known p;
}
