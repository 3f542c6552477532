-- The copies of a partition, each with its node.
use Rattle.std.specs.Prelude.{ℕ, ◌==◌, ◌&&◌, Bool, false, not, List, map}
use Rattle.std.specs.List.{list_all}
use Rattle.cluster_types.specs.declared.cluster_key.ClusterKey.{ClusterKey}
use Rattle.cluster_types.specs.declared.copy_state.CopyState.{CopyState}
use Rattle.cluster_types.specs.declared.copy_state.CopyState.TheVariants.{Empty, Part, Whole}
use Rattle.cluster_types.specs.ClusterKeys.{key_lt}
use Rattle.cluster_types.specs.StateRows.{state_of}
use Rattle.partition_lists.specs.Acting.{is_empty, whole_key}
use Rattle.node_rules.specs.declared.member_row.MemberRow.{MemberRow}

-- how many rows there may be: one of each member of a view
abbrev pub row_limit : ℕ
row_limit = 16

-- the copies of a partition as the rows tell them, in the order of the rows
abbrev pub copies_at : List MemberRow → ℕ → List (ℕ × CopyState)
copies_at rows p = map (λ r. (r.node, state_of r.row p)) rows

-- whether none of the rows' copies had a record as its node entered the view. Where the rows are those of the
-- members, one each, this is whether all copies of the view were empty
abbrev pub are_all_empty : List MemberRow → ℕ → Bool
are_all_empty rows p = list_all (λ r. is_empty (state_of r.row p)) rows

-- whether the copy was whole under no greater key
abbrev pub is_copy_at_most : ClusterKey → ℕ × CopyState → Bool
is_copy_at_most key c = not (key_lt key (whole_key c.1))

-- whether the copy was whole under that key
abbrev pub is_whole_under : ClusterKey → CopyState → Bool
is_whole_under key Empty = false
is_whole_under key Part = false
is_whole_under key (Whole k writes) = (key.round == k.round) && (key.principal == k.principal)

-- the same of a node's copy
abbrev pub is_under : ClusterKey → (ℕ → CopyState) → ℕ → Bool
is_under key state n = is_whole_under key (state n)
