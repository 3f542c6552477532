-- What a member still has to hand on to another, and the batch that is out.
use Rattle.std.specs.Prelude.{ℕ, ◌==◌, Bool, false, ◌&&◌, ◌||◌, not, if◌then◌else◌, List, [], filter_map, Option, Some, None, is_some, option_and_then, bytes_eq}
use Rattle.std.specs.List.{list_any, last_or}
use Rattle.conflict_order.specs.declared.policy.Policy.{Policy}
use Rattle.cluster_types.specs.declared.cluster_key.ClusterKey.{ClusterKey}
use Rattle.cluster_types.specs.Partitions.{partition_of}
use Rattle.wire_messages.specs.declared.message.Message.{Message}
use Rattle.wire_messages.specs.declared.message.Message.TheVariants as message
use Rattle.wire_messages.specs.declared.message.Batch.{Batch}
use Rattle.journal_lines.specs.declared.line.Line.{Line}
use Rattle.journal_readings.specs.Lines.{same_key, is_exchanged, lines_before, fold_along}
use Rattle.journal_readings.specs.Contents.{content}
use Rattle.journal_readings.specs.Views.{is_in_view, is_replica}
use Rattle.journal_readings.specs.Messages.{sent_between, arrival_between}
use Rattle.journal_readings.specs.Classes.{hands_on}

-- ---- the batches of a view from one member to another

abbrev pub batch_in : ClusterKey → Message → Option Batch
batch_in k (message.Batch b) = if same_key b.key k then Some b else None
batch_in k _ = None

-- the batches, as they were sent one after another
abbrev pub sent_batches : ClusterKey → ℕ → ℕ → List Line → List Batch
sent_batches k n r lines = filter_map (batch_in k) (sent_between n r lines)

abbrev pub has_record : List ℕ → Batch → Bool
has_record d b = list_any (λ x. bytes_eq x.0 d) b.records

-- ---- which of them are acknowledged

abbrev pub is_ack : ClusterKey → ℕ → Option Message → Bool
is_ack k number None = false
is_ack k number (Some (message.BatchAck l other)) = same_key l k && (other == number)
is_ack k number (Some _) = false

abbrev pub has_batch : ClusterKey → ℕ → ℕ → ℕ → List Line → Bool
has_batch k n r number lines = list_any (λ b. b.number == number) (sent_batches k n r lines)

-- the batch's acknowledgement reaches its sender, which is in the view and has sent the batch
abbrev pub acks : ClusterKey → ℕ → ℕ → ℕ → List Line → Line → Bool
acks k n r number before l =
    is_ack k number (arrival_between r n before l)
    && (is_in_view k n before && has_batch k n r number before)

-- whether the batch of this number from n to r was acknowledged
unfoldable pub is_acked : ClusterKey → ℕ → ℕ → ℕ → List Line → Bool
is_acked k n r number lines =
    fold_along (λ before acked l. acked || acks k n r number before l) [] false lines

-- ---- what is out and what is pending

abbrev pub unless_acked : ClusterKey → ℕ → ℕ → List Line → Batch → Option Batch
unless_acked k n r lines b = if is_acked k n r b.number lines then None else Some b

-- the batch that is out from n to r: the last that was sent, unless it was acknowledged
unfoldable pub out : ClusterKey → ℕ → ℕ → List Line → Option Batch
out k n r lines = option_and_then (unless_acked k n r lines)
    (last_or None (sent_batches k n r lines))

-- the acknowledgement of a batch with the record reaches the sender, which is in the view
abbrev pub acks_record : ClusterKey → ℕ → ℕ → List ℕ → List Line → Line → Bool
acks_record k n r d before l =
    is_in_view k n before
    && list_any (λ b. has_record d b && is_ack k b.number (arrival_between r n before l))
    (sent_batches k n r before)

-- whether a batch with the record, from n to r, was acknowledged
unfoldable pub is_handed_on : ClusterKey → ℕ → ℕ → List ℕ → List Line → Bool
is_handed_on k n r d lines =
    fold_along (λ before handed l. handed || acks_record k n r d before l) [] false lines

-- whether the node held the record as it finished exchange in the view
abbrev pub held_at_exchange : Policy → ClusterKey → ℕ → List ℕ → List Line → Bool
held_at_exchange by k n d lines =
    is_some
    (option_and_then (λ before. content by n d before) (lines_before (is_exchanged k n) lines))

-- whether n still has to hand the record on to r: r is another member and a replica, n sends to it, held the
-- record as it finished exchange, and no batch with it was acknowledged
unfoldable pub is_record_pending : Policy → ℕ → ClusterKey → ℕ → ℕ → List ℕ → List Line → Bool
is_record_pending by factor k n r d lines =
    not (r == n)
    && (is_replica factor k (partition_of d) r lines
    && (hands_on factor k n r (partition_of d) lines
    && (held_at_exchange by k n d lines
    && not (is_handed_on k n r d lines))))
