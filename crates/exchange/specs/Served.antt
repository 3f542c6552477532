-- Who serves the partitions, as the rows of all members tell.
use Rattle.std.specs.Prelude.{◌≡◌, ℕ, ◌<◌, List, length, slice_index_or}
use Rattle.std.specs.List.{list_all}
use Rattle.cluster_types.specs.declared.copy_state.CopyState.{CopyState}
use Rattle.cluster_types.specs.declared.member.Member.{Member}
use Rattle.cluster_types.specs.Partitions.{partition_count}
use Rattle.cluster_types.specs.StateRows.{state_of}
use Rattle.partition_lists.specs.Acting.{acting_by, is_empty}
use Rattle.partition_lists.specs.Lists.{list}
use Rattle.node_rules.specs.declared.member_row.MemberRow.{MemberRow}
use Rattle.node_rules.specs.Map.{acting_by_rows, all_empty}
use Rattle.exchange.specs.declared.served.Served.{Served}

-- what the copies of a partition with that list tell
abbrev pub served_by : List ℕ → List (ℕ × CopyState) → Served
served_by l copies = record {
  acting = acting_by l (state_of copies);
  all_empty = list_all (λ c. is_empty c.1) copies;
}

-- what the rows tell of a partition
abbrev pub served_at : List Member → List MemberRow → ℕ → Served
served_at members rows p = record {
  acting = acting_by_rows (list members p) rows p;
  all_empty = all_empty (list members p) rows p;
}

-- of each partition stands there what the rows tell
pub record AreServed (members : List Member) (rows : List MemberRow) (served : List Served)
    : Type 0 where
  pub size : length served ≡ partition_count
  pub at : (p : ℕ) (d : Served) → p < partition_count
      → slice_index_or served p d ≡ served_at members rows p
