-- Under what condition a line may stand after a picture.
--
-- A guard says what a node's rules make sure of before they write the line, read off what the node knows in its
-- view; a message's guard is what its sender knows as it sends it. No guard names a law.
use Rattle.std.specs.Prelude.{◌≡◌, ℕ, ◌+◌, Bool, true, false, List, [], ◌∷◌, Option, Some, None, ◌⊎◌, slice_get}
use Rattle.conflict_order.specs.declared.version.Version.{Version}
use Rattle.conflict_order.specs.Join.{AtMost}
use Rattle.conflict_order.specs.Next.{next}
use Rattle.conflict_order.specs.Contents.{Record, Write}
use Rattle.cluster_types.specs.declared.cluster_key.ClusterKey.{ClusterKey}
use Rattle.cluster_types.specs.declared.copy_state.CopyState.{CopyState}
use Rattle.cluster_types.specs.declared.copy_state.CopyState.TheVariants.{Empty, Part, Whole}
use Rattle.cluster_types.specs.ClusterKeys.{key_lt}
use Rattle.cluster_types.specs.Partitions.{partition_of}
use Rattle.cluster_types.specs.Rows.{bit}
use Rattle.cluster_types.specs.StateRows.{state_of}
use Rattle.cluster_types.specs.Distinct.{contains}
use Rattle.wire_messages.specs.declared.message.Batch.{Batch}
use Rattle.wire_messages.specs.declared.message.Message.{Message}
use Rattle.wire_messages.specs.declared.message.Message.TheVariants as message
use Rattle.wire_messages.specs.Decoding.{message_of}
use Rattle.journal_lines.specs.declared.line.Line.{Line}
use Rattle.journal_lines.specs.declared.line.Line.TheVariants as line
use Rattle.cluster_laws.specs.Ground.{Ground, is_view_member, view_master, view_acting, is_view_replica, is_view_empty}
use Rattle.cluster_laws.specs.Stay.{Versions, Running, Stay}
use Rattle.cluster_laws.specs.Picture.{Packet, Owed, Picture}
use Rattle.cluster_laws.specs.Effect.{effect}
use Rattle.cluster_laws.specs.Changes.{act}

-- ---- words of the guards

-- the node is in the view and isn't about to leave it
pub record IsIn (w : Picture) (n : ℕ) (k : ClusterKey) : Type 0 where
  pub view : (w.node n).view ≡ Some k
  pub stays : (w.stay n k).closing ≡ false

-- a message was sent from the one to the other
pub record WasSent (w : Picture) (from to : ℕ) (m : Message) : Type 0 where
  pub number : ℕ
  pub packet : Packet
  pub sent : w.packet number ≡ Some packet
  pub ends : (packet.from ≡ from) × (packet.to ≡ to)
  pub message : packet.message ≡ Some m

-- the record is one of those
pub record IsAmong (records : List Record) (d : List ℕ) (v : Version) : Type 0 where
  pub place : ℕ
  pub here : slice_get records place ≡ Some (d, v)

-- a record of the partition is held
pub record HoldsRecordOf (content : Versions) (p : ℕ) : Type 0 where
  pub digest : List ℕ
  pub version : Version
  pub is_of : partition_of digest ≡ p
  pub held : content digest ≡ Some version

-- the state of a partition's copy, with that stamp
abbrev pub IsState : Versions → Option (ClusterKey × ℕ) → ℕ → CopyState → Type 0
IsState content stamp p Empty = (d : List ℕ) → partition_of d ≡ p → content d ≡ None
IsState content stamp p Part = (stamp ≡ None) × HoldsRecordOf content p
IsState content stamp p (Whole k writes) = (stamp ≡ Some (k, writes)) × HoldsRecordOf content p

-- nothing of the partition is pending from a node that has finished the exchange
pub record IsDone (s : Stay) (p : ℕ) : Type 0 where
  pub exchanged : s.exchanged ≡ true
  pub none : (r : ℕ) (d : List ℕ) → partition_of d ≡ p → s.pending r d ≡ false

-- the node is done at the partition and knows every other member done
pub record AllDone (G : Ground) (n : ℕ) (k : ClusterKey) (s : Stay) (p : ℕ) : Type 0 where
  pub own : IsDone s p
  pub others : (m : ℕ) → is_view_member G k m ≡ true → (m ≡ n → ⊥) → s.told m p ≡ true

-- no transaction is open on the partition
pub record IsFree (s : Stay) (p : ℕ) : Type 0 where
  pub none : (t : ℕ) (y : Running) → s.running t ≡ Some y → partition_of y.digest ≡ p → ⊥

-- the acting master by the rows takes requests until it hands the partition over, and the list master, where that is
-- another, from its settling on. Both go by its own lines
abbrev pub Acts : Ground → ℕ → ClusterKey → Stay → ℕ → Type 0
Acts G n k s p =
    ((n ≡ view_acting G k p) × (s.own_handed p ≡ false))
    ⊎ ((n ≡ view_master G k p) × (n ≡ view_acting G k p → ⊥) × (s.own_settled p ≡ true))

-- ---- lines

pub record MayEnter (G : Ground) (w : Picture) (n : ℕ) (k : ClusterKey) : Type 0 where
  pub above : key_lt (w.node n).last k ≡ true
  pub member : is_view_member G k n ≡ true
  pub row : (p : ℕ) → IsState (w.node n).content ((w.node n).stamp p) p (G.row k n p)
  -- no merge is owed
  pub quiet : w.owed ≡ None

pub record MayExchange (G : Ground) (w : Picture) (n : ℕ) (k : ClusterKey) : Type 0 where
  pub is_in : IsIn w n k
  pub first : (w.stay n k).exchanged ≡ false
  pub rows : (m : ℕ) → is_view_member G k m ≡ true → (w.stay n k).rows m ≡ true

pub record MayOpen (G : Ground) (w : Picture) (n : ℕ) (k : ClusterKey) (t : ℕ) (d : List ℕ)
    : Type 0 where
  pub is_in : IsIn w n k
  pub exchanged : (w.stay n k).exchanged ≡ true
  pub number : t ≡ (w.stay n k).opened + 1
  pub acts : Acts G n k (w.stay n k) (partition_of d)
  pub free : (u : ℕ) (y : Running) → (w.stay n k).running u ≡ Some y → y.digest ≡ d → ⊥

-- the transaction is open on the digest, has applied nothing, and all that were asked have answered
pub record IsResolved (w : Picture) (n : ℕ) (k : ClusterKey) (t : ℕ) (d : List ℕ) (y : Running)
    : Type 0 where
  pub is_in : IsIn w n k
  pub running : (w.stay n k).running t ≡ Some y
  pub digest : y.digest ≡ d
  pub unapplied : y.applied ≡ None
  pub answered : y.awaiting ≡ []

pub record MayAnswer (w : Picture) (n : ℕ) (k : ClusterKey) (t : ℕ) (d : List ℕ)
    (v : Option Version) : Type 0 where
  pub transaction : Running
  pub resolved : IsResolved w n k t d transaction
  pub best : v ≡ transaction.best

pub record MayApply (w : Picture) (n : ℕ) (k : ClusterKey) (t : ℕ) (d : List ℕ) (v : Version)
    : Type 0 where
  pub transaction : Running
  pub resolved : IsResolved w n k t d transaction
  pub next : v ≡ next transaction.best (w.node n).clock v.body

pub record MayFinish (w : Picture) (n : ℕ) (k : ClusterKey) (t : ℕ) : Type 0 where
  pub is_in : IsIn w n k
  pub transaction : Running
  pub write : Write
  pub running : (w.stay n k).running t ≡ Some transaction
  pub applied : transaction.applied ≡ Some write
  pub acked : transaction.awaiting ≡ []

-- it stands right before the node leaves the view
pub record MayGiveUp (w : Picture) (n : ℕ) (k : ClusterKey) : Type 0 where
  pub view : (w.node n).view ≡ Some k

-- a write came, and counts where the list master sent it
pub record CameCounted (G : Ground) (w : Picture) (n : ℕ) (k : ClusterKey) (d : List ℕ)
    (v : Version) (from : ℕ) : Type 0 where
  pub number : ℕ
  pub nth : ℕ
  pub came : WasSent w from n (message.Repl k number nth d v)
  pub counted : from ≡ view_master G k (partition_of d)
      → contains ((w.stay n k).numbers (partition_of d)) nth ≡ true

-- a batch or a write of the view brought the version
abbrev pub Brought : Ground → Picture → ℕ → ClusterKey → List ℕ → Version → ℕ → Type 0
Brought G w n k d v from =
    ((b : Batch) × WasSent w from n (message.Batch b) × (b.key ≡ k) × IsAmong b.records d v)
    ⊎ CameCounted G w n k d v from

pub record MayMerge (G : Ground) (w : Picture) (n : ℕ) (k : ClusterKey) (d : List ℕ) (v : Version)
    : Type 0 where
  pub is_in : IsIn w n k
  pub from : ℕ
  pub brought : Brought G w n k d v from
  -- where a merge is owed, it is this one
  pub owed : (o : Owed) → w.owed ≡ Some o
      → o ≡ record { node = n; key = k; digest = d; version = v }

pub record MayHand (G : Ground) (w : Picture) (n : ℕ) (k : ClusterKey) (p : ℕ) : Type 0 where
  pub is_in : IsIn w n k
  pub acting : n ≡ view_acting G k p
  pub other : n ≡ view_master G k p → ⊥
  pub all_done : AllDone G n k (w.stay n k) p
  pub free : IsFree (w.stay n k) p

pub record MaySettle (G : Ground) (w : Picture) (n : ℕ) (k : ClusterKey) (p : ℕ) : Type 0 where
  pub is_in : IsIn w n k
  pub exchanged : (w.stay n k).exchanged ≡ true
  pub master : n ≡ view_master G k p
  pub some : is_view_empty G k p ≡ false
  pub moved : ((w.stay n k).handed p ≡ true)
      ⊎ ((n ≡ view_acting G k p) × AllDone G n k (w.stay n k) p)
  pub free : IsFree (w.stay n k) p

pub record MayLearn (G : Ground) (w : Picture) (n : ℕ) (k : ClusterKey) (p : ℕ) : Type 0 where
  pub is_in : IsIn w n k
  pub settled : (w.stay n k).settled p ≡ true
  pub replica : is_view_replica G k p n ≡ true

pub record MayDrop (G : Ground) (w : Picture) (n : ℕ) (k : ClusterKey) (p : ℕ) : Type 0 where
  pub is_in : IsIn w n k
  pub settled : (w.stay n k).settled p ≡ true
  pub done : IsDone (w.stay n k) p
  pub outside : is_view_replica G k p n ≡ false

-- ---- messages

-- each record is held so, and is pending to the receiver
pub record AreHeldAndPending (content : Versions) (s : Stay) (r : ℕ)
    (records : List Record) : Type 0 where
  pub held : (d : List ℕ) (v : Version) → IsAmong records d v → content d ≡ Some v
  pub pending : (d : List ℕ) (v : Version) → IsAmong records d v → s.pending r d ≡ true

-- the batch that is out goes again, or the next one, where none is out
abbrev pub IsBatchToSend : Versions → Stay → ℕ → Batch → Type 0
IsBatchToSend content s r b =
    (s.out r ≡ Some b)
    ⊎ ((s.out r ≡ None) × (b.number ≡ s.batches r + 1) × AreHeldAndPending content s r b.records)

pub record MayBatch (w : Picture) (n r : ℕ) (b : Batch) : Type 0 where
  pub is_in : IsIn w n b.key
  pub exchanged : (w.stay n b.key).exchanged ≡ true
  pub batch : IsBatchToSend (w.node n).content (w.stay n b.key) r b

-- the batch came, and each of its records is held now
pub record MayAckBatch (G : Ground) (w : Picture) (n r : ℕ) (k : ClusterKey) (number : ℕ)
    : Type 0 where
  pub is_in : IsIn w n k
  pub batch : Batch
  pub named : (batch.key ≡ k) × (batch.number ≡ number)
  pub came : WasSent w r n (message.Batch batch)
  pub held : (d : List ℕ) (v : Version) → IsAmong batch.records d v
      → AtMost G.by (Some v) ((w.node n).content d)

pub record MayTell (w : Picture) (n : ℕ) (k : ClusterKey)
    (done_bits handed_bits settled_bits : List Bool) : Type 0 where
  pub is_in : IsIn w n k
  pub done : (p : ℕ) → bit done_bits p ≡ true → IsDone (w.stay n k) p
  pub handed : (p : ℕ) → bit handed_bits p ≡ true → (w.stay n k).handed p ≡ true
  pub settled : (p : ℕ) → bit settled_bits p ≡ true → (w.stay n k).settled p ≡ true

pub record MayReplicate (G : Ground) (w : Picture) (n r : ℕ) (k : ClusterKey) (t nth : ℕ)
    (d : List ℕ) (v : Version) : Type 0 where
  pub is_in : IsIn w n k
  pub transaction : Running
  pub running : (w.stay n k).running t ≡ Some transaction
  pub digest : transaction.digest ≡ d
  pub applied : transaction.applied ≡ Some (record { version = v; nth = nth })
  pub replica : is_view_replica G k (partition_of d) r ≡ true
  pub other : r ≡ n → ⊥

-- the write came, counts where the list master sent it, and is held now
pub record MayAckWrite (G : Ground) (w : Picture) (n r : ℕ) (k : ClusterKey) (t : ℕ) : Type 0 where
  pub is_in : IsIn w n k
  pub nth : ℕ
  pub digest : List ℕ
  pub version : Version
  pub came : WasSent w r n (message.Repl k t nth digest version)
  pub counted : r ≡ view_master G k (partition_of digest)
      → contains ((w.stay n k).numbers (partition_of digest)) nth ≡ true
  pub held : AtMost G.by (Some version) ((w.node n).content digest)

pub record MayAsk (w : Picture) (n : ℕ) (k : ClusterKey) (t : ℕ) (d : List ℕ) : Type 0 where
  pub is_in : IsIn w n k
  pub transaction : Running
  pub running : (w.stay n k).running t ≡ Some transaction
  pub digest : transaction.digest ≡ d

pub record MayReply (w : Picture) (n r : ℕ) (k : ClusterKey) (t : ℕ) (v : Option Version)
    : Type 0 where
  pub is_in : IsIn w n k
  pub digest : List ℕ
  pub came : WasSent w r n (message.Ask k t digest)
  pub held : v ≡ (w.node n).content digest

pub record MayState (G : Ground) (w : Picture) (n : ℕ) (k : ClusterKey)
    (states : List (ℕ × CopyState)) : Type 0 where
  pub is_in : IsIn w n k
  pub row : (p : ℕ) → state_of states p ≡ G.row k n p

abbrev pub MaySend : Ground → Picture → ℕ → ℕ → Message → Type 0
MaySend G w n r (message.State k wants row) = MayState G w n k row
MaySend G w n r (message.Batch b) = MayBatch w n r b
MaySend G w n r (message.BatchAck k number) = MayAckBatch G w n r k number
MaySend G w n r (message.Progress k wants done handed settled) = MayTell w n k done handed settled
MaySend G w n r (message.Repl k t nth d v) = MayReplicate G w n r k t nth d v
MaySend G w n r (message.ReplAck k t) = MayAckWrite G w n r k t
MaySend G w n r (message.Ask k t d) = MayAsk w n k t d
MaySend G w n r (message.Answer k t v) = MayReply w n r k t v
MaySend G w n r _ = Unit {0}

abbrev pub MaySendIf : Ground → Picture → ℕ → ℕ → Option Message → Type 0
MaySendIf G w n r None = Unit {0}
MaySendIf G w n r (Some m) = MaySend G w n r m

-- ---- all lines

abbrev pub Guard : Ground → Picture → Line → Type 0
Guard G w (line.Enter n k members) = (members ≡ G.members k) × MayEnter G w n k
Guard G w (line.Exchanged n k) = MayExchange G w n k
Guard G w (line.Opened n k t d action) = MayOpen G w n k t d
Guard G w (line.Value n k t d v) = MayAnswer w n k t d v
Guard G w (line.Apply n k t d v) = MayApply w n k t d v
Guard G w (line.Done n k t) = MayFinish w n k t
Guard G w (line.Aborted n k t) = MayGiveUp w n k
Guard G w (line.Doubt n k t) = MayGiveUp w n k
Guard G w (line.Handed n k p) = MayHand G w n k p
Guard G w (line.Settled n k p) = MaySettle G w n k p
Guard G w (line.Learn n k p) = MayLearn G w n k p
Guard G w (line.Drop n k p) = MayDrop G w n k p
Guard G w (line.Sent i a b bytes) = (w.packet i ≡ None) × MaySendIf G w a b (message_of bytes)
Guard G w _ = Unit {0}

-- the line's guard, and no line but the merge that is owed stands where one is
abbrev pub Ok : Ground → Picture → Line → Type 0
Ok G w (line.Merge n k d v) = MayMerge G w n k d v
Ok G w l = (w.owed ≡ None) × Guard G w l

-- ---- runs

-- the picture after a line
abbrev pub picture_after : Ground → Picture → Line → Picture
picture_after G w l = act G (effect w l) w

abbrev pub picture_after_all : Ground → Picture → List Line → Picture
picture_after_all G w [] = w
picture_after_all G w (l ∷ ls) = picture_after_all G (picture_after G w l) ls

-- each line may stand after those before it
abbrev pub Licensed : Ground → Picture → List Line → Type 0
Licensed G w [] = Unit {0}
Licensed G w (l ∷ ls) = Ok G w l × Licensed G (picture_after G w l) ls
