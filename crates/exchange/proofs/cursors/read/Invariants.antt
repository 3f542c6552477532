use Rattle.std.proofs.Common.{◌≡◌, ◌<◌, ◌≤◌, ◌+◌, ℕ, length, take}
use Rattle.std.specs.Prelude.{slice_index, slice_index_or}
use Rattle.node_rules.specs.declared.member_row.MemberRow.{MemberRow}
use Rattle.partition_state.specs.Copies.{copies_at}
use Rattle.exchange.specs.Rows.{place_in}
use Rattle.exchange.proofs.cursors.read.Given as goal

abbrev pub invariant-loop-i : goal.invariant-loop-i
invariant-loop-i l = record {
  states : l.states ≡ copies_at (take l.i l.rows) l.p;
  done : (k : ℕ) (d : MemberRow) → k < l.i → k < length l.rows → slice_index l.places k ≡ place_in (l.p + 1) (slice_index_or l.rows k d).row;
  rest : (k : ℕ) (d : MemberRow) → l.i ≤ k → k < length l.rows → slice_index l.places k ≡ place_in l.p (slice_index_or l.rows k d).row;
}
