-- What is due of a node that the client asks for its table.
use Rattle.std.specs.Prelude.{ℕ, zero, suc, ◌+◌, Bool, List, [], ◌∷◌, if◌then◌else◌}
use Rattle.cluster_types.specs.Partitions.{partition_count}
use Rattle.cluster_types.specs.Endpoints.{client}
use Rattle.wire_messages.specs.declared.message.MapTable.{MapTable}
use Rattle.wire_messages.specs.declared.message.Message.TheVariants as message
use Rattle.node_rules.specs.Effects.{Effects, nothing, sends_only, to_one}
use Rattle.node_rules.specs.Facts.{Facts, view_key, list_at}
use Rattle.node_rules.specs.Standing.{named, has_moved}

-- the nodes that are to be asked for so many partitions, from one on
unfoldable pub named_from : Facts → ℕ → ℕ → List ℕ
named_from f zero p = []
named_from f (suc n) p = named f (list_at f p) p ∷ named_from f n (p + 1)

-- which of so many partitions, from one on, have come to their list masters
unfoldable pub moved_from : Facts → ℕ → ℕ → List Bool
moved_from f zero p = []
moved_from f (suc n) p = has_moved f p ∷ moved_from f n (p + 1)

-- whom the client is to ask for each partition
abbrev pub map_table : Facts → MapTable
map_table f = record {
  key = view_key f;
  ids = named_from f partition_count 0;
  moved = moved_from f partition_count 0;
}

-- MapAsk: after the exchange a table goes to the client
abbrev pub due_map_ask : Facts → Effects
due_map_ask f =
    if f.exchange.exchanged
    then sends_only (to_one client (message.MapTable (map_table f)))
    else nothing
