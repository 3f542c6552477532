-- What the facts say of a line that is due, at its very place: the licence in terms of the world.
use Rattle.std.specs.Prelude.{◌≡◌, ◌+◌, ℕ, Bool, true, false, List, [], ◌∷◌, Option, Some, None, ◌⊎◌, length, IsTrue}
use Rattle.std.specs.FinMap as finite
use Rattle.conflict_order.specs.declared.version.Version.{Version}
use Rattle.conflict_order.specs.Join.{AtMost}
use Rattle.conflict_order.specs.Next.{next}
use Rattle.cluster_types.specs.declared.cluster_key.ClusterKey.{ClusterKey}
use Rattle.cluster_types.specs.declared.copy_state.CopyState.{CopyState}
use Rattle.cluster_types.specs.declared.member.Member.{Member}
use Rattle.cluster_types.specs.ClusterKeys.{key_lt}
use Rattle.cluster_types.specs.Partitions.{partition_count, partition_of}
use Rattle.cluster_types.specs.Rows.{bit}
use Rattle.cluster_types.specs.StateRows.{state_of}
use Rattle.partition_lists.specs.Lists.{replicas}
use Rattle.wire_messages.specs.declared.message.Batch.{Batch}
use Rattle.wire_messages.specs.declared.message.Message.{Message}
use Rattle.wire_messages.specs.declared.message.Message.TheVariants as message
use Rattle.wire_messages.specs.Decoding.{message_of}
use Rattle.journal_lines.specs.declared.line.Line.{Line}
use Rattle.journal_lines.specs.declared.line.Line.TheVariants as line
use Rattle.node_rules.specs.Batches.{Target, target}
use Rattle.node_rules.specs.Facts.{Facts, members_of_view, list_at}
use Rattle.node_rules.specs.Map.{list_master}
use Rattle.node_rules.specs.Notes.{own_row}
use Rattle.node_rules.specs.Settling.{may_hand, may_settle}
use Rattle.node_rules.specs.Stamps.{numbers_at}
use Rattle.node_rules.specs.Standing.{acts, is_to_learn, is_to_drop, is_done, acting_at}
use Rattle.node_rules.specs.Tables.{contains}
use Rattle.node_rules.specs.Transactions.{Transaction, Write, transaction, transaction_on}
use Rattle.cluster_rules.specs.declared.event.Event.TheVariants as event
use Rattle.cluster_rules.specs.Allowed.{names_known}
use Rattle.cluster_rules.specs.Calm.{is_calm_of}
use Rattle.journal_readings.specs.Maps.{with_roles}
use Rattle.cluster_rules.specs.Marks.{Mark, Begins, Writes}
use Rattle.journal_readings.specs.Messages.{Posting}
use Rattle.cluster_rules.specs.Network.{posting_at}
use Rattle.cluster_rules.specs.World.{World}
use Rattle.cluster_laws.specs.Ground.{Ground, is_view_member}
use Rattle.cluster_laws.specs.Licences.{IsAmong}
use Rattle.cluster_laws.specs.Picture.{Owed, Picture}
use Rattle.cluster_laws.specs.Journals.{FitsGround}
use Rattle.cluster_laws.specs.Licences as licences
use Rattle.run_laws.specs.Due.{Passes}
use Rattle.run_laws.specs.Fronts.{Front, world_of, facts_at, front_after, Sane}
use Rattle.run_laws.specs.Tied.{RowsAgree, key_in, has_pending}

-- the node is in the view and isn't about to leave it
pub record StandsInView (z : Front) (n : ℕ) (k : ClusterKey) : Type 0 where
  pub view : key_in (facts_at z n).exchange.view ≡ Some k
  pub stays : z.closing n ≡ false

-- a message was sent from the one to the other
pub record Came (z : Front) (from to : ℕ) (m : Message) : Type 0 where
  pub number : ℕ
  pub posting : Posting
  pub sent : posting_at (world_of z).network number ≡ Some posting
  pub ends : (posting.from ≡ from) × (posting.to ≡ to)
  pub message : message_of posting.bytes ≡ Some m

abbrev pub IsDeclared : Front → ℕ → Type 0
IsDeclared z n = IsTrue (contains (world_of z).nodes n)

-- ---- views

pub record EnterOk (G : Ground) (z : Front) (n : ℕ) (k : ClusterKey) (ms : List Member)
    : Type 0 where
  pub above : key_lt (facts_at z n).agreement.last k ≡ true
  pub members : ms ≡ G.members k
  pub member : is_view_member G k n ≡ true
  pub row : (p : ℕ) → state_of (own_row (facts_at z n)) p ≡ G.row k n p

pub record ExchangeOk (G : Ground) (z : Front) (n : ℕ) (k : ClusterKey) : Type 0 where
  pub stands : StandsInView z n k
  pub first : (facts_at z n).exchange.exchanged ≡ false
  pub rows : RowsAgree G k (facts_at z n).exchange.rows

-- ---- transactions

pub record OpenOk (z : Front) (n : ℕ) (k : ClusterKey) (t : ℕ) (d : List ℕ) : Type 0 where
  pub stands : StandsInView z n k
  pub number : t ≡ (facts_at z n).transactions.opened + 1
  pub acts : acts (facts_at z n) (list_at (facts_at z n) (partition_of d)) (partition_of d) ≡ true
  pub free : transaction_on (facts_at z n).transactions d ≡ None

pub record Resolves (z : Front) (n : ℕ) (k : ClusterKey) (t : ℕ) (d : List ℕ) (y : Transaction)
    : Type 0 where
  pub stands : StandsInView z n k
  pub running : transaction (facts_at z n).transactions t ≡ Some y
  pub digest : y.digest ≡ d
  pub unapplied : y.applied ≡ None
  pub answered : y.awaiting ≡ []

pub record AnswerOk (z : Front) (n : ℕ) (k : ClusterKey) (t : ℕ) (d : List ℕ) (v : Option Version)
    : Type 0 where
  pub item : Transaction
  pub resolves : Resolves z n k t d item
  pub best : v ≡ item.best

pub record ApplyOk (z : Front) (n : ℕ) (k : ClusterKey) (t : ℕ) (d : List ℕ) (v : Version)
    : Type 0 where
  pub item : Transaction
  pub resolves : Resolves z n k t d item
  pub next : v ≡ next item.best ((world_of z).clocks n) v.body
  pub declared : IsDeclared z n

pub record FinishOk (z : Front) (n : ℕ) (k : ClusterKey) (t : ℕ) : Type 0 where
  pub stands : StandsInView z n k
  pub item : Transaction
  pub write : Write
  pub running : transaction (facts_at z n).transactions t ≡ Some item
  pub applied : item.applied ≡ Some write
  pub acked : item.awaiting ≡ []

-- it stands right before the node leaves the view
pub record GiveUpOk (z : Front) (n : ℕ) (k : ClusterKey) : Type 0 where
  pub view : key_in (facts_at z n).exchange.view ≡ Some k

-- ---- copies

pub record Counted (z : Front) (n : ℕ) (k : ClusterKey) (d : List ℕ) (v : Version) (from : ℕ)
    : Type 0 where
  pub number : ℕ
  pub nth : ℕ
  pub came : Came z from n (message.Repl k number nth d v)
  pub counted : from ≡ list_master (list_at (facts_at z n) (partition_of d))
      → contains (numbers_at (facts_at z n).writes (partition_of d)) nth ≡ true

abbrev pub Brings : Front → ℕ → ClusterKey → List ℕ → Version → ℕ → Type 0
Brings z n k d v from =
    ((b : Batch) × Came z from n (message.Batch b) × (b.key ≡ k) × IsAmong b.records d v)
    ⊎ Counted z n k d v from

pub record MergeOk (z : Front) (n : ℕ) (k : ClusterKey) (d : List ℕ) (v : Version) : Type 0 where
  pub stands : StandsInView z n k
  pub from : ℕ
  pub brings : Brings z n k d v from
  pub owed : (o : Owed) → z.owed ≡ Some o
      → o ≡ record { node = n; key = k; digest = d; version = v }
  pub declared : IsDeclared z n

-- a line of settling passes its test
pub record SettlingOk (z : Front) (n : ℕ) (k : ClusterKey) (p : ℕ) (test : Bool) : Type 0 where
  pub stands : StandsInView z n k
  pub passes : Passes (facts_at z n) n k p test

-- ---- messages

pub record StateOk (G : Ground) (z : Front) (n : ℕ) (k : ClusterKey) (states : List (ℕ × CopyState))
    : Type 0 where
  pub stands : StandsInView z n k
  pub row : (p : ℕ) → state_of states p ≡ G.row k n p

-- the batch is out, or is the next one: each record is held so, and is pending
pub record NewBatch (f : Facts) (t : Target) (b : Batch) : Type 0 where
  pub none : t.out ≡ None
  pub number : b.number ≡ t.batches + 1
  pub held : (d : List ℕ) (v : Version) → IsAmong b.records d v
      → finite.get f.store.content d ≡ Some v
  pub pending : (d : List ℕ) (v : Version) → IsAmong b.records d v → has_pending (Some t) d ≡ true

pub record BatchOk (z : Front) (n r : ℕ) (b : Batch) : Type 0 where
  pub stands : StandsInView z n b.key
  pub exchanged : (facts_at z n).exchange.exchanged ≡ true
  pub item : Target
  pub there : target (facts_at z n).batches r ≡ Some item
  pub batch : (item.out ≡ Some b) ⊎ NewBatch (facts_at z n) item b

pub record BatchAckOk (z : Front) (n r : ℕ) (k : ClusterKey) (number : ℕ) : Type 0 where
  pub stands : StandsInView z n k
  pub batch : Batch
  pub named : (batch.key ≡ k) × (batch.number ≡ number)
  pub came : Came z r n (message.Batch batch)
  pub held : (d : List ℕ) (v : Version) → IsAmong batch.records d v
      → AtMost (facts_at z n).store.by (Some v) (finite.get (facts_at z n).store.content d)

pub record ProgressOk (z : Front) (n : ℕ) (k : ClusterKey)
    (done_bits handed_bits settled_bits : List Bool) : Type 0 where
  pub stands : StandsInView z n k
  pub done : (p : ℕ) → bit done_bits p ≡ true → is_done (facts_at z n) p ≡ true
  pub handed : (p : ℕ) → bit handed_bits p ≡ true → bit (facts_at z n).bits.handed p ≡ true
  pub settled : (p : ℕ) → bit settled_bits p ≡ true → bit (facts_at z n).bits.settled p ≡ true

pub record ReplOk (z : Front) (n r : ℕ) (k : ClusterKey) (t nth : ℕ) (d : List ℕ) (v : Version)
    : Type 0 where
  pub stands : StandsInView z n k
  pub item : Transaction
  pub running : transaction (facts_at z n).transactions t ≡ Some item
  pub digest : item.digest ≡ d
  pub applied : item.applied ≡ Some (record { version = v; nth = nth })
  pub replica : contains (replicas (list_at (facts_at z n) (partition_of d)) (facts_at z n).factor)
      r
      ≡ true
  pub other : r ≡ n → ⊥

pub record ReplAckOk (z : Front) (n r : ℕ) (k : ClusterKey) (t : ℕ) : Type 0 where
  pub stands : StandsInView z n k
  pub nth : ℕ
  pub digest : List ℕ
  pub version : Version
  pub came : Came z r n (message.Repl k t nth digest version)
  pub counted : r ≡ list_master (list_at (facts_at z n) (partition_of digest))
      → contains (numbers_at (facts_at z n).writes (partition_of digest)) nth ≡ true
  pub held : AtMost (facts_at z n).store.by (Some version)
      (finite.get (facts_at z n).store.content digest)

pub record AskOk (z : Front) (n : ℕ) (k : ClusterKey) (t : ℕ) (d : List ℕ) : Type 0 where
  pub stands : StandsInView z n k
  pub item : Transaction
  pub running : transaction (facts_at z n).transactions t ≡ Some item
  pub digest : item.digest ≡ d

pub record ReplyOk (z : Front) (n r : ℕ) (k : ClusterKey) (t : ℕ) (v : Option Version)
    : Type 0 where
  pub stands : StandsInView z n k
  pub digest : List ℕ
  pub came : Came z r n (message.Ask k t digest)
  pub held : v ≡ finite.get (facts_at z n).store.content digest

abbrev pub SendOk : Ground → Front → ℕ → ℕ → Message → Type 0
SendOk G z n r (message.State k wants row) = StateOk G z n k row
SendOk G z n r (message.Batch b) = BatchOk z n r b
SendOk G z n r (message.BatchAck k number) = BatchAckOk z n r k number
SendOk G z n r (message.Progress k wants done handed settled) = ProgressOk z n k done handed settled
SendOk G z n r (message.Repl k t nth d v) = ReplOk z n r k t nth d v
SendOk G z n r (message.ReplAck k t) = ReplAckOk z n r k t
SendOk G z n r (message.Ask k t d) = AskOk z n k t d
SendOk G z n r (message.Answer k t v) = ReplyOk z n r k t v
SendOk G z n r _ = Unit {0}

abbrev pub SendOkIf : Ground → Front → ℕ → ℕ → Option Message → Type 0
SendOkIf G z n r None = Unit {0}
SendOkIf G z n r (Some m) = SendOk G z n r m

-- the message has the next number
pub record SentOk (G : Ground) (z : Front) (i a b : ℕ) (bytes : List ℕ) : Type 0 where
  pub number : i ≡ length (world_of z).network.sent + 1
  pub says : SendOkIf G z a b (message_of bytes)

-- the line names the end to which the message was sent
abbrev pub ArrivesOk : Front → ℕ → ℕ → Type 0
ArrivesOk z i b = (p : Posting) → posting_at (world_of z).network i ≡ Some p → p.to ≡ b

-- a map is shown by a node in its view, whose exchange is over
pub record MapOk (z : Front) (n : ℕ) (k : ClusterKey) (p : ℕ) (ms : List Member) (a : ℕ)
    : Type 0 where
  pub stands : StandsInView z n k
  pub exchanged : (facts_at z n).exchange.exchanged ≡ true
  pub shown : ms ≡ with_roles (members_of_view (facts_at z n)) (list_at (facts_at z n) p)
  pub acting : a ≡ acting_at (facts_at z n) (list_at (facts_at z n) p) p

-- ---- groups and calm

-- the groups name declared nodes alone, and each of them
abbrev pub AreGrouped : World → List (List ℕ) → Type 0
AreGrouped w groups = names_known w.nodes (event.Groups groups) ≡ true

-- the world is calm, and nobody is about to leave its view
pub record CalmOk (z : Front) : Type 0 where
  pub calm : is_calm_of partition_count (world_of z) ≡ true
  pub stays : (n : ℕ) → z.closing n ≡ false

-- ---- all lines

abbrev pub FactOk : Ground → Front → Line → Type 0
FactOk G z (line.Enter n k ms) = EnterOk G z n k ms
FactOk G z (line.Exchanged n k) = ExchangeOk G z n k
FactOk G z (line.Opened n k t d a) = OpenOk z n k t d
FactOk G z (line.Value n k t d v) = AnswerOk z n k t d v
FactOk G z (line.Apply n k t d v) = ApplyOk z n k t d v
FactOk G z (line.Done n k t) = FinishOk z n k t
FactOk G z (line.Aborted n k t) = GiveUpOk z n k
FactOk G z (line.Doubt n k t) = GiveUpOk z n k
FactOk G z (line.Handed n k p) =
    SettlingOk z n k p (may_hand (facts_at z n) (list_at (facts_at z n) p) p)
FactOk G z (line.Settled n k p) =
    SettlingOk z n k p (may_settle (facts_at z n) (list_at (facts_at z n) p) p)
FactOk G z (line.Learn n k p) =
    SettlingOk z n k p (is_to_learn (facts_at z n) (list_at (facts_at z n) p) p)
FactOk G z (line.Drop n k p) =
    SettlingOk z n k p (is_to_drop (facts_at z n) (list_at (facts_at z n) p) p)
FactOk G z (line.Sent i a b bytes) = SentOk G z i a b bytes
FactOk G z (line.Deliver i a b) = ArrivesOk z i b
FactOk G z (line.Repeat i a b) = ArrivesOk z i b
FactOk G z (line.Cut i a b size) = ArrivesOk z i b
FactOk G z (line.Map n k p ms a) = MapOk z n k p ms a
FactOk G z (line.Groups groups) = AreGrouped (world_of z) groups
FactOk G z (line.Calm rounds) = CalmOk z
FactOk G z _ = Unit {0}

-- no line but the merge that is owed stands where one is
abbrev pub LineOk : Ground → Front → Line → Type 0
LineOk G z (line.Merge n k d v) = MergeOk z n k d v
LineOk G z l = (z.owed ≡ None) × FactOk G z l

-- each line is so where it stands, and the facts there are sane
abbrev pub Goes : Ground → Front → List Mark → Type 0
Goes G z [] = Unit {0}
Goes G z (Begins e ∷ ms) = Goes G (front_after z (Begins e)) ms
Goes G z (Writes l ∷ ms) = Sane G (world_of z) × LineOk G z l × Goes G (front_after z (Writes l)) ms

-- each line fits where it stands
abbrev pub Fitting : Ground → List ℕ → Picture → List Line → Type 0
Fitting G declared w [] = Unit {0}
Fitting G declared w (l ∷ ls) = FitsGround G declared w l
    × Fitting G declared (licences.picture_after G w l) ls
