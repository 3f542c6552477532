use Rattle.std.proofs.Common.{◌<◌, ℕ, length}
use Rattle.std.specs.Prelude.{slice_index, slice_index_or}
use Rattle.cluster_types.specs.StateRows.{IsStateRow}
use Rattle.node_rules.specs.declared.member_row.MemberRow.{MemberRow}
use Rattle.exchange.specs.Rows.{IsNextIn}
use Rattle.exchange.proofs.cursors.next_told.Given as goal

abbrev pub invariant-loop-i : goal.invariant-loop-i
invariant-loop-i l = record {
  rising : (k : ℕ) (d : MemberRow) → k < l.i → k < length l.rows → IsStateRow (slice_index_or l.rows k d).row;
  next_in : (k : ℕ) (d : MemberRow) → k < l.i → k < length l.rows → IsNextIn l.next (slice_index_or l.rows k d).row (slice_index l.places k);
}
