-- What a message that reached the node adds to its facts.
use Rattle.std.specs.Prelude.{ℕ, ◌==◌, Bool, List, Option, if◌then◌else◌}
use Rattle.conflict_order.specs.declared.version.Version.{Version}
use Rattle.cluster_types.specs.declared.cluster_key.ClusterKey.{ClusterKey}
use Rattle.cluster_types.specs.Partitions.{partition_of}
use Rattle.wire_messages.specs.declared.message.Message.{Message}
use Rattle.wire_messages.specs.declared.message.Message.TheVariants as message
use Rattle.node_rules.specs.declared.beat.Beat.{Beat}
use Rattle.node_rules.specs.Agreement as agreement
use Rattle.node_rules.specs.Batches as batches
use Rattle.node_rules.specs.Bits.{progressing}
use Rattle.node_rules.specs.Copies.{Row}
use Rattle.node_rules.specs.Exchange.{is_view, with_row}
use Rattle.node_rules.specs.Facts.{Facts, list_at}
use Rattle.node_rules.specs.Hearing.{beat_heard}
use Rattle.node_rules.specs.Map.{list_master}
use Rattle.node_rules.specs.Stamps.{hearing_write, count_at, store_counted}
use Rattle.node_rules.specs.Standing.{is_master}
use Rattle.node_rules.specs.Transactions as transactions

-- whether the node is in the view of that key
abbrev pub in_view : Facts → ClusterKey → Bool
in_view f key = is_view f.exchange.view key

-- a heartbeat came, with the key that its sender promised
abbrev pub heard_beat : Facts → ℕ → Beat → Facts
heard_beat f from beat = record f {
  hearing = beat_heard f.hearing from beat;
  agreement = agreement.seeing f.agreement beat.promised;
}

-- a Refuse came, with the key that its sender promised
abbrev pub refused_by : Facts → ClusterKey → ClusterKey → Facts
refused_by f key promised = record f {
  agreement = agreement.seeing (agreement.refused f.agreement key) promised;
}

-- a row came, where the test says whether it is of the view
abbrev pub row_came : Facts → ℕ → Row → Bool → Facts
row_came f from row of_view =
    if of_view
    then record f { exchange = record f.exchange { rows = with_row f.exchange.rows from row } }
    else f

-- a BatchAck came, where the test says whether it is of the view
abbrev pub batch_acked : Facts → ℕ → ℕ → Bool → Facts
batch_acked f from number of_view =
    if of_view then record f { batches = batches.acking f.batches from number } else f

-- a Progress came, where the test says whether it is of the view
abbrev pub progress_came : Facts → ℕ → List Bool → List Bool → List Bool → Bool → Facts
progress_came f from done handed settled of_view =
    if of_view then record f { bits = progressing f.bits from done handed settled } else f

-- the list master's write of that number came, of a partition with that list
abbrev pub write_counted : Facts → ClusterKey → List ℕ → ℕ → ℕ → Facts
write_counted f key l p nth = record f {
  writes = hearing_write f.writes p nth;
  store = store_counted f.store key p (count_at (hearing_write f.writes p nth) (is_master f l) p);
}

-- the write counts where the test holds
abbrev pub write_counted_if : Facts → ClusterKey → List ℕ → ℕ → ℕ → Bool → Facts
write_counted_if f key l p nth b = if b then write_counted f key l p nth else f

-- a write of the view came: it counts where the list master sent it
abbrev pub write_came : Facts → ℕ → ClusterKey → ℕ → ℕ → Bool → Facts
write_came f from key nth p of_view =
    if of_view
    then write_counted_if f key (list_at f p) p nth (from == list_master (list_at f p))
    else f

-- a ReplAck came, where the test says whether it is of the view
abbrev pub write_acked : Facts → ℕ → ℕ → Bool → Facts
write_acked f from number of_view =
    if of_view
    then record f { transactions = transactions.acknowledging f.transactions from number }
    else f

-- an Answer came, where the test says whether it is of the view
abbrev pub answer_came : Facts → ℕ → ℕ → Option Version → Bool → Facts
answer_came f from number v of_view =
    if of_view
    then record f { transactions = transactions.answering f.store.by f.transactions from number v }
    else f

-- what a message adds that reached the node
abbrev pub reached : Facts → ℕ → Message → Facts
reached f from (message.Heartbeat view promised hears role) =
    heard_beat f from (record { view = view; promised = promised; hears = hears; role = role })
reached f from (message.Accept key) = record f {
  agreement = agreement.accepting f.agreement from key;
}
reached f from (message.Refuse key promised) = refused_by f key promised
reached f from (message.State key wants row) = row_came f from row (in_view f key)
reached f from (message.BatchAck key number) = batch_acked f from number (in_view f key)
reached f from (message.Progress key wants done handed settled) =
    progress_came f from done handed settled (in_view f key)
reached f from (message.Repl key t nth digest v) =
    write_came f from key nth (partition_of digest) (in_view f key)
reached f from (message.ReplAck key t) = write_acked f from t (in_view f key)
reached f from (message.Answer key t v) = answer_came f from t v (in_view f key)
reached f from _ = f
