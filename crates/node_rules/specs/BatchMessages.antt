-- What is due of a node that a batch reaches, or the acknowledgement of one.
use Rattle.std.specs.Prelude.{ℕ, List, [], ◌∷◌, ◌++◌, None, if◌then◌else◌}
use Rattle.std.specs.FinMap as finite
use Rattle.conflict_order.specs.declared.version.Version.{Version}
use Rattle.conflict_order.specs.Order.{is_newer}
use Rattle.conflict_order.specs.Contents.{Record}
use Rattle.cluster_types.specs.declared.cluster_key.ClusterKey.{ClusterKey}
use Rattle.journal_lines.specs.declared.line.Line.{Line}
use Rattle.journal_lines.specs.declared.line.Line.TheVariants as line
use Rattle.wire_messages.specs.declared.message.Batch.{Batch}
use Rattle.wire_messages.specs.declared.message.Message.TheVariants as message
use Rattle.node_rules.specs.Batches.{out_to, has_number}
use Rattle.node_rules.specs.Effects.{Effects, nothing, lines_and_sends, to_one}
use Rattle.node_rules.specs.Facts.{Facts, view_key}
use Rattle.node_rules.specs.Notes.{noted, in_view}
use Rattle.node_rules.specs.Tables.{only_if}
use Rattle.node_rules.specs.StaleMessages.{stale, spent}

-- the line of a record that was newer
abbrev pub merge_line : ℕ → ClusterKey → Record → Line
merge_line me key r = line.Merge me key r.0 r.1

-- a line where the version is newer than what is held
abbrev pub merging : Facts → List ℕ → Version → List Line
merging f digest v =
    only_if (line.Merge f.me (view_key f) digest v)
    (is_newer f.store.by v (finite.get f.store.content digest))

-- a line for each record, in order, that is newer than what is held as it comes to it
abbrev pub merging_all : Facts → List Record → List Line
merging_all f [] = []
merging_all f (r ∷ rs) = merging f r.0 r.1 ++ merging_all (noted None f (merging f r.0 r.1)) rs

-- Batch: each record is joined into the store, and the batch is acknowledged
abbrev pub due_batch : Facts → ℕ → Batch → Effects
due_batch f from b =
    if in_view f b.key
    then lines_and_sends (merging_all f b.records) (to_one from (message.BatchAck b.key b.number))
    else stale f

-- BatchAck: spent where no batch of that number is out to its sender
abbrev pub due_batch_ack : Facts → ℕ → ClusterKey → ℕ → Effects
due_batch_ack f from key number =
    if in_view f key
    then (if has_number (out_to f.batches from) number then nothing else spent f)
    else stale f
