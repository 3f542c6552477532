-- What is due of a node that a message of a transaction reaches.
use Rattle.std.specs.Prelude.{ℕ, List, Option, Some, None, if◌then◌else◌}
use Rattle.std.specs.FinMap as finite
use Rattle.conflict_order.specs.declared.version.Version.{Version}
use Rattle.cluster_types.specs.declared.cluster_key.ClusterKey.{ClusterKey}
use Rattle.cluster_types.specs.Partitions.{partition_of}
use Rattle.journal_lines.specs.declared.line.Line.TheVariants as line
use Rattle.wire_messages.specs.declared.message.Message.TheVariants as message
use Rattle.node_rules.specs.Effects.{Effects, nothing, lines_only, sends_only, lines_and_sends, to_one}
use Rattle.node_rules.specs.Facts.{Facts, view_key, list_at}
use Rattle.node_rules.specs.Notes.{in_view}
use Rattle.node_rules.specs.Resolving.{resolving}
use Rattle.node_rules.specs.Transactions.{Transaction, transaction, awaits_answer, awaits_ack, answered, is_last_awaited}
use Rattle.node_rules.specs.Tables.{only_if}
use Rattle.node_rules.specs.StaleMessages.{stale, spent}
use Rattle.node_rules.specs.BatchMessages.{merging}

-- Repl: the version is joined into the store, and the write is acknowledged
abbrev pub due_repl : Facts → ℕ → ClusterKey → ℕ → List ℕ → Version → Effects
due_repl f from key number digest v =
    if in_view f key
    then lines_and_sends (merging f digest v) (to_one from (message.ReplAck key number))
    else stale f

-- a ReplAck, where that transaction is open
abbrev pub ack_of : Facts → ℕ → Option Transaction → Effects
ack_of f from None = spent f
ack_of f from (Some t) =
    if awaits_ack t from
    then lines_only (only_if (line.Done f.me (view_key f) t.number) (is_last_awaited t from))
    else spent f

-- ReplAck: spent where it isn't awaited; the last one that is awaited makes the transaction done
abbrev pub due_repl_ack : Facts → ℕ → ClusterKey → ℕ → Effects
due_repl_ack f from key number =
    if in_view f key then ack_of f from (transaction f.transactions number) else stale f

-- Ask: answered with the version that is held, or none
abbrev pub due_ask : Facts → ℕ → ClusterKey → ℕ → List ℕ → Effects
due_ask f from key number digest =
    if in_view f key
    then sends_only (to_one from (message.Answer key number (finite.get f.store.content digest)))
    else stale f

-- an Answer, where that transaction is open
abbrev pub answer_of : Facts → ℕ → ℕ → Option Version → Option Transaction → Effects
answer_of f clock from v None = spent f
answer_of f clock from v (Some t) =
    if awaits_answer t from
    then (if is_last_awaited t from
    then resolving f clock (list_at f (partition_of t.digest)) (answered f.store.by from v t)
    else nothing)
    else spent f

-- Answer: spent where it isn't awaited; the last one that is awaited resolves the transaction
abbrev pub due_answer : Facts → ℕ → ℕ → ClusterKey → ℕ → Option Version → Effects
due_answer f clock from key number v =
    if in_view f key
    then answer_of f clock from v (transaction f.transactions number)
    else stale f
