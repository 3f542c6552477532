-- Who serves a partition, as the rows of a view's members tell. The list of the partition is an argument.
pub use Rattle.partition_lists.specs.Acting.{is_empty, is_whole, whole_key, list_master}
use Rattle.std.specs.Prelude.{ℕ, ◌==◌, Bool, List, [], Option, find, option_map, unwrap_or, is_none}
use Rattle.cluster_types.specs.declared.copy_state.CopyState.{CopyState}
use Rattle.cluster_types.specs.declared.map_view.MapEntry.{MapEntry}
use Rattle.cluster_types.specs.StateRows.{state_of}
use Rattle.partition_lists.specs.Acting.{acting_by, all_empty_by, is_wholest_by}
use Rattle.node_rules.specs.declared.member_row.MemberRow.{MemberRow}
use Rattle.node_rules.specs.Copies.{Row}

-- the member's row, if it is there
abbrev pub row_of_member : List MemberRow → ℕ → Option Row
row_of_member rows n = option_map (λ r. r.row) (find (λ r. r.node == n) rows)

-- whether the member's row isn't there
abbrev pub lacks : List MemberRow → ℕ → Bool
lacks rows n = is_none (row_of_member rows n)

-- the state of the member's copy of a partition; Empty also where its row isn't there
abbrev pub row_state_at : List MemberRow → ℕ → ℕ → CopyState
row_state_at rows p n = state_of (unwrap_or (row_of_member rows n) []) p

-- whether none of these members' copies had a record as its node entered the view
abbrev pub all_empty : List ℕ → List MemberRow → ℕ → Bool
all_empty ids rows p = all_empty_by ids (row_state_at rows p)

-- whether the member's copy is whole, and none in the list is whole under a greater key
abbrev pub is_wholest : List ℕ → List MemberRow → ℕ → ℕ → Bool
is_wholest l rows p n = is_wholest_by l (row_state_at rows p) n

-- the acting master: the first of the list whose copy is whole under the greatest key, and the list
-- master where no copy is whole. Counts of writes play no part
abbrev pub acting_by_rows : List ℕ → List MemberRow → ℕ → ℕ
acting_by_rows l rows p = acting_by l (row_state_at rows p)

-- who serves the partition
abbrev pub entry_of : List ℕ → List MemberRow → ℕ → MapEntry
entry_of l rows p = record {
  list = l;
  acting = acting_by_rows l rows p;
  all_empty = all_empty l rows p;
}
