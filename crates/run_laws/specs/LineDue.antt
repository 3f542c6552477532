-- What a line that is due meets, with no ground: what is said by the ground in `LineOk` is said here by the chronicle.
use Rattle.std.specs.Prelude.{◌≡◌, ◌+◌, ◌<◌, ◌^◌, ℕ, Bool, true, false, List, [], ◌∷◌, Option, Some, None, length, slice_get}
use Rattle.conflict_order.specs.declared.policy.Policy.{Policy}
use Rattle.conflict_order.specs.declared.version.Version.{Version}
use Rattle.conflict_order.specs.declared.want.Action.{Action}
use Rattle.cluster_types.specs.declared.cluster_key.ClusterKey.{ClusterKey}
use Rattle.cluster_types.specs.declared.member.Member.{Member}
use Rattle.cluster_types.specs.ClusterKeys.{key_lt}
use Rattle.cluster_types.specs.Partitions.{partition_count, partition_of}
use Rattle.wire_messages.specs.declared.message.Batch.{Batch}
use Rattle.wire_messages.specs.declared.message.Message.{Message}
use Rattle.wire_messages.specs.declared.message.Message.TheVariants as message
use Rattle.wire_messages.specs.Decoding.{message_of}
use Rattle.wire_messages.specs.Requests.{IsWant}
use Rattle.wire_messages.specs.Versions.{IsBody, IsDigest}
use Rattle.journal_lines.specs.declared.line.Line.{Line}
use Rattle.journal_lines.specs.declared.line.Line.TheVariants as line
use Rattle.node_rules.specs.Batches.{Target, Targets, target}
use Rattle.node_rules.specs.Copies.{Row}
use Rattle.node_rules.specs.Hearing.{Heard}
use Rattle.cluster_types.specs.declared.member.Role.{Role}
use Rattle.journal_readings.specs.Messages.{Posting}
use Rattle.node_rules.specs.Exchange.{is_member, View, Exchange, first_missing, members_of}
use Rattle.node_rules.specs.Facts.{Facts, members_of_view, list_at}
use Rattle.node_rules.specs.Map.{lacks}
use Rattle.node_rules.specs.Notes.{request_want}
use Rattle.node_rules.specs.Settling.{may_hand, may_settle}
use Rattle.node_rules.specs.Standing.{is_to_learn, is_to_drop}
use Rattle.node_rules.specs.Transactions.{Transaction, Transactions, Write, transaction}
use Rattle.node_rules.specs.Tables.{contains}
use Rattle.partition_lists.specs.Lists.{list, replicas}
use Rattle.run_laws.specs.Tied.{Each, Among, key_in}
use Rattle.cluster_rules.specs.Marks.{Mark, Begins, Writes}
use Rattle.key_laws.specs.Order.{KeyAtMost}
use Rattle.key_laws.specs.Sound.{Sound}
use Rattle.run_laws.specs.Chronicle.{IsRowOf, MayEnterFirst, Rowed}
use Rattle.run_laws.specs.Fronts.{Front, world_of, facts_at, front_after}
use Rattle.run_laws.specs.LineOk.{StandsInView, IsDeclared, OpenOk, AnswerOk, ApplyOk, FinishOk, GiveUpOk, MergeOk, SettlingOk, BatchOk, BatchAckOk, ProgressOk, ReplOk, ReplAckOk, AskOk, ReplyOk, ArrivesOk, MapOk, AreGrouped, CalmOk}

pub record EnterDue (z : Front) (n : ℕ) (k : ClusterKey) (ms : List Member) : Type 0 where
  pub first : MayEnterFirst z.chronicle n k ms
  pub above : key_lt (facts_at z n).agreement.last k ≡ true

pub record ExchangeDue (z : Front) (n : ℕ) (k : ClusterKey) : Type 0 where
  pub stands : StandsInView z n k
  pub first : (facts_at z n).exchange.exchanged ≡ false
  pub none : first_missing (facts_at z n).exchange.rows (members_of_view (facts_at z n)) ≡ None

pub record StateDue (z : Front) (n : ℕ) (k : ClusterKey) (states : Row) : Type 0 where
  pub stands : StandsInView z n k
  pub row : IsRowOf z.chronicle n k states

-- the digest of a request and the want in hand keep their ranges
pub record OpenDue (z : Front) (n : ℕ) (k : ClusterKey) (t : ℕ) (d : List ℕ) : Type 0 where
  pub opens : OpenOk z n k t d
  pub digest : IsDigest d
  pub wanted : (a : Action) → IsWant (request_want (world_of z).want a)

-- the body keeps its range where the want does
pub record ApplyDue (z : Front) (n : ℕ) (k : ClusterKey) (t : ℕ) (d : List ℕ) (v : Version)
    : Type 0 where
  pub applies : ApplyOk z n k t d v
  pub body : IsWant applies.item.want → IsBody v.body

abbrev pub SendDue : Front → ℕ → ℕ → Message → Type 0
SendDue z n r (message.State k wants row) = StateDue z n k row
SendDue z n r (message.Batch b) = BatchOk z n r b
SendDue z n r (message.BatchAck k number) = BatchAckOk z n r k number
SendDue z n r (message.Progress k wants done handed settled) = ProgressOk z n k done handed settled
SendDue z n r (message.Repl k t nth d v) = ReplOk z n r k t nth d v
SendDue z n r (message.ReplAck k t) = ReplAckOk z n r k t
SendDue z n r (message.Ask k t d) = AskOk z n k t d
SendDue z n r (message.Answer k t v) = ReplyOk z n r k t v
SendDue z n r (message.Heartbeat view promised hears role) = IsDeclared z n
SendDue z n r _ = Unit {0}

abbrev pub SendDueIf : Front → ℕ → ℕ → Option Message → Type 0
SendDueIf z n r None = Unit {0}
SendDueIf z n r (Some m) = SendDue z n r m

-- the message has the next number
pub record SentDue (z : Front) (i a b : ℕ) (bytes : List ℕ) : Type 0 where
  pub number : i ≡ length (world_of z).network.sent + 1
  pub says : SendDueIf z a b (message_of bytes)

abbrev pub FactDue : Front → Line → Type 0
FactDue z (line.Enter n k ms) = EnterDue z n k ms
FactDue z (line.Exchanged n k) = ExchangeDue z n k
FactDue z (line.Opened n k t d a) = OpenDue z n k t d
FactDue z (line.Value n k t d v) = AnswerOk z n k t d v
FactDue z (line.Apply n k t d v) = ApplyDue z n k t d v
FactDue z (line.Done n k t) = FinishOk z n k t
FactDue z (line.Aborted n k t) = GiveUpOk z n k
FactDue z (line.Doubt n k t) = GiveUpOk z n k
FactDue z (line.Handed n k p) =
    SettlingOk z n k p (may_hand (facts_at z n) (list_at (facts_at z n) p) p)
FactDue z (line.Settled n k p) =
    SettlingOk z n k p (may_settle (facts_at z n) (list_at (facts_at z n) p) p)
FactDue z (line.Learn n k p) =
    SettlingOk z n k p (is_to_learn (facts_at z n) (list_at (facts_at z n) p) p)
FactDue z (line.Drop n k p) =
    SettlingOk z n k p (is_to_drop (facts_at z n) (list_at (facts_at z n) p) p)
FactDue z (line.Sent i a b bytes) = SentDue z i a b bytes
FactDue z (line.Deliver i a b) = ArrivesOk z i b
FactDue z (line.Repeat i a b) = ArrivesOk z i b
FactDue z (line.Cut i a b size) = ArrivesOk z i b
FactDue z (line.Map n k p ms a) = MapOk z n k p ms a
FactDue z (line.Groups groups) = AreGrouped (world_of z) groups
FactDue z (line.Calm rounds) = CalmOk z
-- a key of the node's own is a declared node's
FactDue z (line.Promise n k) = k.principal ≡ n → IsDeclared z n
-- a clock keeps its range
FactDue z (line.Clock n time) = time < 2 ^ 64
-- the lines of a header aren't due
FactDue z (line.Script version) = ⊥
FactDue z (line.Factor factor) = ⊥
FactDue z (line.Node n rack) = ⊥
FactDue z (line.Policy by) = ⊥
FactDue z _ = Unit {0}

abbrev pub LineDue : Front → Line → Type 0
LineDue z (line.Merge n k d v) = MergeOk z n k d v
LineDue z l = (z.owed ≡ None) × FactDue z l

-- the same where the laws of keys say the rest of an entry
abbrev pub LineMay : Front → Line → Type 0
LineMay z (line.Enter n k ms) = (z.owed ≡ None) × Unit {0}
LineMay z l = LineDue z l

-- each line where it stands
abbrev pub AllDue : Front → List Line → Type 0
AllDue z [] = Unit {0}
AllDue z (l ∷ ls) = LineMay z l × AllDue (front_after z (Writes l)) ls

-- each line of the marks where it stands
abbrev pub DueMarks : Front → List Mark → Type 0
DueMarks z [] = Unit {0}
DueMarks z (Begins e ∷ ms) = DueMarks (front_after z (Begins e)) ms
DueMarks z (Writes l ∷ ms) = LineMay z l × DueMarks (front_after z (Writes l)) ms

-- ---- what holds at every line

-- whom a transaction awaits after its write, where the partition has that list
abbrev pub Acks : ℕ → List ℕ → ℕ → Transaction → Type 0
Acks me l factor y =
    (w : Write) → y.applied ≡ Some w → (r : ℕ) → contains y.awaiting r ≡ true
    → (contains (replicas l factor) r ≡ true) × (r ≡ me → ⊥)

-- the parts of a node's facts: its number, how its versions compare and how many replicas there are, its exchange, its rows of bits, its
-- transactions and what it hands on
pub record NodeLaw (by : Policy) (factor : ℕ) (me : ℕ) (own_by : Policy) (own_factor : ℕ)
    (e : Exchange) (handed settled own_handed own_settled : List Bool) (ts : Transactions)
    (targets : Targets) : Type 0 where
  pub same_by : own_by ≡ by
  pub same_factor : own_factor ≡ factor
  pub full : (v : View) → e.view ≡ Some v → e.exchanged ≡ true
      → first_missing e.rows v.members ≡ None
  pub inside : e.view ≡ None → e.exchanged ≡ false
  -- the node's own row is there
  pub own : (v : View) → e.view ≡ Some v → lacks e.rows me ≡ false
  pub quiet : e.exchanged ≡ false → targets ≡ []
  pub handed_places : length handed ≡ partition_count
  pub settled_places : length settled ≡ partition_count
  pub own_handed_places : length own_handed ≡ partition_count
  pub own_settled_places : length own_settled ≡ partition_count
  pub counted : (t : ℕ) → ts.opened < t → transaction ts t ≡ None
  -- what runs is found by its number, and after its write it awaits other replicas alone
  pub runs : (y : Transaction) → Among ts.running y → transaction ts y.number ≡ Some y
  pub acks : (y : Transaction) → Among ts.running y
      → Acks me (list (members_of e.view) (partition_of y.digest)) own_factor y
  -- what is handed on is found by its receiver, and a batch that is out is of the view
  pub aims : (t : Target) → Among targets t → target targets t.node ≡ Some t
  pub outs : (t : Target) → Among targets t → (b : Batch) → t.out ≡ Some b
      → key_in e.view ≡ Some b.key

abbrev pub LawOf : Policy → ℕ → Facts → Type 0
LawOf by factor f =
    NodeLaw by factor f.me f.store.by f.factor f.exchange f.bits.handed f.bits.settled
    f.bits.own_handed f.bits.own_settled f.transactions f.batches

-- who is heard, who stands in a list and who sends a heartbeat is declared
pub record DeclaredLaw (z : Front) : Type 0 where
  pub lists : (k : ClusterKey) (ms : List Member) (m : ℕ) → z.chronicle.traced.lists k ≡ Some ms
      → is_member ms m ≡ true → IsDeclared z m
  pub heard : (n : ℕ) → Each (λ (e : ℕ × Heard). IsDeclared z e.0) (facts_at z n).hearing.heard
  pub beats : (i : ℕ) (p : Posting) (view promised : ClusterKey) (hears : List ℕ) (role : Role)
      → slice_get (world_of z).network.sent i ≡ Some p
      → message_of p.bytes ≡ Some (message.Heartbeat view promised hears role) → IsDeclared z p.from

pub record LawfulFront (by : Policy) (factor : ℕ) (z : Front) : Type 0 where
  pub sound : Sound z.chronicle.traced
  pub rowed : Rowed z.chronicle
  pub nodes : (n : ℕ) → LawOf by factor (facts_at z n)
  -- the key that a node entered last is the greatest of those that it entered
  pub visited : (n : ℕ) (k : ClusterKey) → z.chronicle.traced.entered n k ≡ true
      → KeyAtMost k (facts_at z n).agreement.last
  pub declared : DeclaredLaw z
