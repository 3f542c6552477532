-- Under what condition a mark may stand: what must be so just before it. Only what touches keys has one.
use Rattle.std.specs.Prelude.{◌≡◌, ℕ, List, [], ◌∷◌, Option, Some, None, slice_get, IsTrue, ◌⊎◌}
use Rattle.cluster_types.specs.declared.cluster_key.ClusterKey.{ClusterKey}
use Rattle.cluster_types.specs.declared.copy_state.CopyState.{CopyState}
use Rattle.cluster_types.specs.declared.copy_state.CopyState.TheVariants.{Empty, Part, Whole}
use Rattle.cluster_types.specs.declared.member.Member.{Member}
use Rattle.cluster_types.specs.ClusterKeys.{IsBelow}
use Rattle.wire_messages.specs.declared.message.Message.{Message}
use Rattle.wire_messages.specs.declared.message.Message.TheVariants as message
use Rattle.wire_messages.specs.Decoding.{message_of}
use Rattle.wire_messages.specs.Keys.{IsKeyField, IsKeyOrNone}
use Rattle.wire_messages.specs.Nodes.{IsId}
use Rattle.journal_lines.specs.declared.line.Line.{Line}
use Rattle.journal_lines.specs.declared.line.Line.TheVariants as line
use Rattle.node_rules.specs.Copies.{Row}
use Rattle.node_rules.specs.Exchange.{is_member}
use Rattle.journal_readings.specs.Messages.{Posting}
use Rattle.cluster_rules.specs.Marks.{Mark, Begins, Writes}
use Rattle.node_rules.specs.Facts.{view_key}
use Rattle.key_laws.specs.Order.{KeyAtMost}
use Rattle.key_laws.specs.Traced.{Traced, facts_of, traced_after}

-- ---- keys that stand somewhere

-- the key is at most what its principal has promised
pub record IsPromisedKey (t : Traced) (k : ClusterKey) : Type 0 where
  pub bound : KeyAtMost k (facts_of t k.principal).agreement.promised
  pub field : IsKeyOrNone k

-- the node has entered the view of the key
pub record Visited (t : Traced) (n : ℕ) (k : ClusterKey) : Type 0 where
  pub known : IsPromisedKey t k
  pub entered : IsTrue (t.entered n k)

-- the key under which a copy is whole
abbrev pub CopyOf : (ClusterKey → Type 0) → CopyState → Type 0
CopyOf P Empty = Unit {0}
CopyOf P Part = Unit {0}
CopyOf P (Whole k writes) = P k

-- the keys of a row's copies
abbrev pub RowOf : (ClusterKey → Type 0) → Row → Type 0
RowOf P [] = Unit {0}
RowOf P (e ∷ es) = CopyOf P e.1 × RowOf P es

-- ---- messages

-- what a message of that sender says, in terms that can't become false
abbrev pub Says : Traced → ℕ → Message → Type 0
Says t a (message.Heartbeat view promised hears role) = IsId a × IsPromisedKey t view
    × IsPromisedKey t promised
Says t a (message.Propose k ms) = (k.principal ≡ a) × (t.lists k ≡ Some ms)
Says t a (message.Accept k) = IsPromisedKey t k
Says t a (message.Refuse k promised) = IsPromisedKey t k × IsPromisedKey t promised
Says t a (message.Commit k ms) = t.lists k ≡ Some ms
Says t a (message.State k wants row) = IsPromisedKey t k × RowOf (λ q. IsPromisedKey t q) row
Says t a (message.Batch b) = IsPromisedKey t b.key
Says t a (message.BatchAck k number) = IsPromisedKey t k
Says t a (message.Progress k wants done handed settled) = IsPromisedKey t k
Says t a (message.Repl k number nth d v) = IsPromisedKey t k
Says t a (message.ReplAck k number) = IsPromisedKey t k
Says t a (message.Ask k number d) = IsPromisedKey t k
Says t a (message.Answer k number v) = IsPromisedKey t k
Says t a (message.MapTable table) = IsPromisedKey t table.key
Says t a (message.Proxy k number d want) = IsPromisedKey t k
Says t a (message.ProxyReply k number reply) = IsPromisedKey t k
Says t a (message.Reply k number reply) = IsPromisedKey t k
Says t a (message.ScanPage page) = IsPromisedKey t page.key
Says t a _ = Unit {0}

-- bytes that spell no message say nothing
abbrev pub SaysIf : Traced → ℕ → Option Message → Type 0
SaysIf t a None = Unit {0}
SaysIf t a (Some m) = Says t a m

-- a proposal is of the key that its sender has promised, above the last one
pub record Proposes (t : Traced) (a : ℕ) (k : ClusterKey) : Type 0 where
  pub promised : k ≡ (facts_of t a).agreement.promised
  pub above : IsBelow (facts_of t a).agreement.last k

-- what must be so as a message of that sender is sent, beside what it says
abbrev pub MaySendKey : Traced → ℕ → Message → Type 0
MaySendKey t a (message.Propose k ms) = Proposes t a k
MaySendKey t a _ = Unit {0}

abbrev pub MaySendKeyIf : Traced → ℕ → Option Message → Type 0
MaySendKeyIf t a None = Unit {0}
MaySendKeyIf t a (Some m) = MaySendKey t a m

-- a message of this content was sent
pub record WasPosted (t : Traced) (m : Message) : Type 0 where
  pub number : ℕ
  pub posting : Posting
  pub stands : slice_get t.world.network.sent number ≡ Some posting
  pub read : message_of posting.bytes ≡ Some m

-- ---- lines of a node

-- a key of the node's own, or one that was proposed
pub record MayPromise (t : Traced) (n : ℕ) (k : ClusterKey) : Type 0 where
  pub above : IsBelow (facts_of t n).agreement.promised k
  pub source : (k.principal ≡ n) × IsKeyField k
      ⊎ ((ms : List Member) × WasPosted t (message.Propose k ms))

-- the key that is promised, above the last one: of a view of the node's own, or of one that was committed
pub record MayEnterKey (t : Traced) (n : ℕ) (k : ClusterKey) (ms : List Member) : Type 0 where
  pub promised : k ≡ (facts_of t n).agreement.promised
  pub above : IsBelow (facts_of t n).agreement.last k
  pub among : IsTrue (is_member ms n)
  pub source : (t.lists k ≡ Some ms) ⊎ WasPosted t (message.Commit k ms)

-- the exchange ends in the view that the node is in
pub record MayFinishExchange (t : Traced) (n : ℕ) (k : ClusterKey) : Type 0 where
  pub visited : Visited t n k
  pub view : k ≡ view_key (facts_of t n)

abbrev pub OkLine : Traced → Line → Type 0
OkLine t (line.Promise n k) = MayPromise t n k
OkLine t (line.Enter n k ms) = MayEnterKey t n k ms
OkLine t (line.Sent i a b bytes) = SaysIf t a (message_of bytes)
    × MaySendKeyIf t a (message_of bytes)
OkLine t (line.Exchanged n k) = MayFinishExchange t n k
OkLine t (line.Opened n k number d a) = Visited t n k
OkLine t (line.Value n k number d v) = Visited t n k
OkLine t (line.Apply n k number d v) = Visited t n k
OkLine t (line.Done n k number) = Visited t n k
OkLine t (line.Aborted n k number) = IsPromisedKey t k
OkLine t (line.Doubt n k number) = IsPromisedKey t k
OkLine t (line.Merge n k d v) = Visited t n k
OkLine t (line.Handed n k p) = Visited t n k
OkLine t (line.Settled n k p) = Visited t n k
OkLine t (line.Learn n k p) = Visited t n k
OkLine t (line.Drop n k p) = Visited t n k
OkLine t (line.Map n k p ms a) = Visited t n k
OkLine t (line.Table k) = IsPromisedKey t k
OkLine t (line.Proxy n k x d a acting) = IsPromisedKey t k
OkLine t (line.Proxied n k x body) = IsPromisedKey t k
OkLine t (line.Unproxied n k x) = IsPromisedKey t k
OkLine t (line.Scanned s n k p size) = IsPromisedKey t k
OkLine t _ = Unit {0}

abbrev pub OkMark : Traced → Mark → Type 0
OkMark t (Begins e) = Unit {0}
OkMark t (Writes l) = OkLine t l

-- each mark has its licence where it stands
abbrev pub LicensedMarks : Traced → List Mark → Type 0
LicensedMarks t [] = Unit {0}
LicensedMarks t (m ∷ ms) = OkMark t m × LicensedMarks (traced_after t m) ms
