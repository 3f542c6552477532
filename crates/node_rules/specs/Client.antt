-- The client, and which node it takes for a partition: by the tables that reached it.
use Rattle.std.specs.Prelude.{ℕ, ◌&&◌, ◌||◌, Bool, not, List, find, Option, option_map, slice_index}
use Rattle.std.specs.List.{list_all}
use Rattle.cluster_types.specs.ClusterKeys.{key_lt}
use Rattle.cluster_types.specs.Rows.{bit}
use Rattle.wire_messages.specs.declared.message.MapTable.{MapTable}
use Rattle.node_rules.specs.Keys.{same_key}

-- the tables that reached the client, in the order in which they came
abbrev pub Tables : Type 0
Tables = List MapTable

-- whether the first table tells of the partition by a greater key than the second, or by the same key that
-- it has moved where the second doesn't
abbrev pub is_later_at : ℕ → MapTable → MapTable → Bool
is_later_at p a b =
    key_lt b.key a.key || (same_key a.key b.key && (bit a.moved p && not (bit b.moved p)))

-- whether no table is later than this one
abbrev pub is_latest_at : Tables → ℕ → MapTable → Bool
is_latest_at tables p t = list_all (λ other. not (is_later_at p other t)) tables

-- the table that counts for the partition: the first that none is later than
abbrev pub latest_at : Tables → ℕ → Option MapTable
latest_at tables p = find (is_latest_at tables p) tables

-- the node that the client asks for the partition; none where no table reached it
abbrev pub node_for : Tables → ℕ → Option ℕ
node_for tables p = option_map (λ t. slice_index t.ids p) (latest_at tables p)
