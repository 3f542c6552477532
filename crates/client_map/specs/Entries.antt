-- What is kept of the tables that reached the client.
use Rattle.std.specs.Prelude.{◌≡◌, ℕ, ◌<◌, ◌&&◌, ◌||◌, Bool, not, if◌then◌else◌, List, Option, Some, None, option_map, slice_index, slice_index_or}
use Rattle.cluster_types.specs.ClusterKeys.{key_lt}
use Rattle.cluster_types.specs.Partitions.{partition_count}
use Rattle.cluster_types.specs.Rows.{bit}
use Rattle.wire_messages.specs.declared.message.MapTable.{MapTable}
use Rattle.node_rules.specs.Client.{Tables, latest_at}
use Rattle.node_rules.specs.Keys.{same_key}
use Rattle.client_map.specs.declared.client_map.Entry.{Entry}

-- what a table tells of a partition
abbrev pub told_entry : ℕ → MapTable → Entry
told_entry p t = record { key = t.key; moved = bit t.moved p; node = slice_index t.ids p }

-- whether the first entry has a greater key, or the same key and only it has moved
abbrev pub is_later : Entry → Entry → Bool
is_later a b = key_lt b.key a.key || (same_key a.key b.key && (a.moved && not b.moved))

-- an entry in place of the one before, if it is later
abbrev pub later_entry : Option Entry → Entry → Entry
later_entry None e = e
later_entry (Some before) e = if is_later e before then e else before

-- what the table that counts for the partition tells of it
abbrev pub told_at : Tables → ℕ → Option Entry
told_at ts p = option_map (told_entry p) (latest_at ts p)

-- the entries are those of these tables
pub record Holds (ts : Tables) (entries : List (Option Entry)) : Type 0 where
  pub told : (p : ℕ) → p < partition_count → slice_index_or entries p None ≡ told_at ts p
