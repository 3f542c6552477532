use Rattle.std.proofs.Common.{◌≡◌, ◌<◌, ◌≤◌, ℕ, None, Some}
use Rattle.std.specs.Prelude.{slice_index_or}
use Rattle.client_map.specs.Entries.{told_entry, later_entry}
use Rattle.client_map.proofs.client_map.refresh_each.Given as goal

abbrev pub invariant-loop-number : goal.invariant-loop-number
invariant-loop-number l = record {
  done : (p : ℕ) → p < l.number → slice_index_or l.entries p None ≡ Some (later_entry (slice_index_or l.initial.entries p None) (told_entry p l.table));
  rest : (p : ℕ) → l.number ≤ p → slice_index_or l.entries p None ≡ slice_index_or l.initial.entries p None;
}
