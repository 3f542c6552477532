-- What holds of keys at every licensed mark: the invariant.
use Rattle.std.specs.Prelude.{◌≡◌, ℕ, ◌<◌, List, [], ◌∷◌, Option, Some, None, slice_get, IsTrue, All, true}
use Rattle.std.specs.FinMap as finite
use Rattle.cluster_types.specs.declared.cluster_key.ClusterKey.{ClusterKey}
use Rattle.cluster_types.specs.declared.member.Member.{Member}
use Rattle.cluster_types.specs.ClusterKeys.{IsBelow}
use Rattle.cluster_types.specs.Distinct.{IsDescending}
use Rattle.cluster_types.specs.Members.{ids_of}
use Rattle.wire_messages.specs.declared.message.Message.{Message}
use Rattle.wire_messages.specs.declared.message.MapTable.{MapTable}
use Rattle.wire_messages.specs.Decoding.{message_of}
use Rattle.wire_messages.specs.Keys.{IsKeyField}
use Rattle.wire_messages.specs.Nodes.{IsId}
use Rattle.wire_messages.specs.declared.message.Batch.{Batch}
use Rattle.node_rules.specs.Agreement.{Agreement, Proposal}
use Rattle.node_rules.specs.Batches.{Targets}
use Rattle.node_rules.specs.declared.member_row.MemberRow.{MemberRow}
use Rattle.node_rules.specs.Copies.{Stamp, Stamps}
use Rattle.node_rules.specs.Exchange.{View, is_member}
use Rattle.node_rules.specs.Facts.{Facts, view_key}
use Rattle.node_rules.specs.Hearing.{Heard}
use Rattle.node_rules.specs.Tables.{Table}
use Rattle.journal_readings.specs.Messages.{Posting}
use Rattle.key_laws.specs.Order.{KeyAtMost}
use Rattle.key_laws.specs.Traced.{Traced, facts_of}
use Rattle.key_laws.specs.Licences.{IsPromisedKey, RowOf, Says}

-- ---- lists of members

-- the ids fall, each has a spelling, and the node that leads is among them
pub record GoodList (leader : ℕ) (ms : List Member) : Type 0 where
  pub led : IsTrue (is_member ms leader)
  pub fit : All (λ m. IsId m.id) ms
  pub falls : IsDescending (ids_of ms)

-- ---- a node

-- the proposal is the node's own, of the promised key, and for the list of that key
pub record Proposed (t : Traced) (n : ℕ) (promised last : ClusterKey) (p : Proposal) : Type 0 where
  pub key : p.key ≡ promised
  pub above : IsBelow last p.key
  pub own : p.key.principal ≡ n
  pub list : t.lists p.key ≡ Some p.members

abbrev pub ProposalStands : Traced → ℕ → ClusterKey → ClusterKey → Option Proposal → Type 0
ProposalStands t n promised last None = Unit {0}
ProposalStands t n promised last (Some p) = Proposed t n promised last p

pub record Agrees (t : Traced) (n : ℕ) (a : Agreement) : Type 0 where
  pub ordered : KeyAtMost a.last a.promised
  pub promised : IsPromisedKey t a.promised
  pub last : IsPromisedKey t a.last
  pub proposal : ProposalStands t n a.promised a.last a.proposal

-- the view is the one that was entered last, of the list of its key, in which the node stands
pub record Entered (t : Traced) (n : ℕ) (last : ClusterKey) (v : View) : Type 0 where
  pub key : v.key ≡ last
  pub list : t.lists v.key ≡ Some v.members
  pub entered : IsTrue (t.entered n v.key)
  pub among : IsTrue (is_member v.members n)

abbrev pub ViewStands : Traced → ℕ → ClusterKey → Option View → Type 0
ViewStands t n last None = Unit {0}
ViewStands t n last (Some v) = Entered t n last v

-- the number is below those of all entries
abbrev pub IsUnder : {X : Type 0} → ℕ → Table X → Type 0
IsUnder n [] = Unit {0}
IsUnder n (e ∷ es) = (n < e.0) × IsUnder n es

-- the numbers of the entries strictly rise
abbrev pub RisesByNumber : {X : Type 0} → Table X → Type 0
RisesByNumber [] = Unit {0}
RisesByNumber (e ∷ es) = IsUnder e.0 es × RisesByNumber es

-- a heartbeat that a node with an id sent
pub record HeardOf (t : Traced) (e : ℕ × Heard) : Type 0 where
  pub sender : IsId e.0
  pub view : IsPromisedKey t e.1.beat.view
  pub promised : IsPromisedKey t e.1.beat.promised

abbrev pub HeardAll : Traced → Table Heard → Type 0
HeardAll t [] = Unit {0}
HeardAll t (e ∷ es) = HeardOf t e × HeardAll t es

pub record Hears (t : Traced) (heard : Table Heard) : Type 0 where
  pub rises : RisesByNumber heard
  pub each : HeardAll t heard

abbrev pub OutKnown : Traced → Option Batch → Type 0
OutKnown t None = Unit {0}
OutKnown t (Some b) = IsPromisedKey t b.key

-- the batches that are out are of keys that stand somewhere
abbrev pub Outs : Traced → Targets → Type 0
Outs t [] = Unit {0}
Outs t (x ∷ xs) = OutKnown t x.out × Outs t xs

-- the copies that a node knows of are whole under keys that stand somewhere
abbrev pub RowsKnown : Traced → List MemberRow → Type 0
RowsKnown t [] = Unit {0}
RowsKnown t (r ∷ rs) = RowOf (λ k. IsPromisedKey t k) r.row × RowsKnown t rs

-- and so are its own
pub record StampsKnown (t : Traced) (stamps : Stamps) : Type 0 where
  pub each : (p : ℕ) (s : Stamp) → finite.get stamps p ≡ Some s → IsPromisedKey t s.0

pub record NodeKeys (t : Traced) (n : ℕ) (f : Facts) : Type 0 where
  pub me : f.me ≡ n
  pub agrees : Agrees t n f.agreement
  pub view : ViewStands t n f.agreement.last f.exchange.view
  pub hears : Hears t f.hearing.heard
  pub outs : Outs t f.batches
  pub rows : RowsKnown t f.exchange.rows
  pub stamps : StampsKnown t f.store.stamps
  pub finished : f.exchange.exchanged ≡ true → IsTrue (t.entered n (view_key f))

-- ---- a world

-- a list belongs to a key that stands somewhere
pub record Listed (t : Traced) (k : ClusterKey) (ms : List Member) : Type 0 where
  pub known : IsPromisedKey t k
  pub key : IsKeyField k
  pub good : GoodList k.principal ms

abbrev pub Shown : Traced → List MapTable → Type 0
Shown t [] = Unit {0}
Shown t (x ∷ xs) = IsPromisedKey t x.key × Shown t xs

pub record Sound (t : Traced) : Type 0 where
  pub nodes : (n : ℕ) → NodeKeys t n (facts_of t n)
  pub lists : (k : ClusterKey) (ms : List Member) → t.lists k ≡ Some ms → Listed t k ms
  pub sent : (i : ℕ) (p : Posting) (m : Message) → slice_get t.world.network.sent i ≡ Some p
      → message_of p.bytes ≡ Some m → Says t p.from m
  pub tables : Shown t t.world.tables

-- ---- what only grows

pub record Grows (t u : Traced) : Type 0 where
  pub promised : (n : ℕ)
      → KeyAtMost (facts_of t n).agreement.promised (facts_of u n).agreement.promised
  pub lists : (k : ClusterKey) (ms : List Member) → t.lists k ≡ Some ms → u.lists k ≡ Some ms
  pub sent : (i : ℕ) (p : Posting) → slice_get t.world.network.sent i ≡ Some p
      → slice_get u.world.network.sent i ≡ Some p
  pub entered : (n : ℕ) (k : ClusterKey) → IsTrue (t.entered n k) → IsTrue (u.entered n k)
