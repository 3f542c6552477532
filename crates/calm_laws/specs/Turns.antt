-- How the nodes of a group stand to one proposal of it, and the messages of that proposal.
use Rattle.std.specs.Prelude.{◌≡◌, ◌⊎◌, ℕ, ◌≤◌, ◌==◌, ◌||◌, Bool, true, false, List, map, reverse, Option, Some, None}
use Rattle.cluster_types.specs.declared.cluster_key.ClusterKey.{ClusterKey}
use Rattle.cluster_types.specs.declared.member.Member.{Member}
use Rattle.cluster_types.specs.declared.member.Role.{Role}
use Rattle.cluster_types.specs.ClusterKeys.{IsBelow}
use Rattle.cluster_types.specs.Members.{ids_of}
use Rattle.wire_messages.specs.declared.message.Message.{Message}
use Rattle.wire_messages.specs.declared.message.Message.TheVariants as message
use Rattle.wire_messages.specs.Keys.{IsKeyField, IsKeyOrNone}
use Rattle.wire_messages.specs.Nodes.{AreMembersField, IsId}
use Rattle.node_rules.specs.Agreement.{Proposal, others_among, seen_round}
use Rattle.node_rules.specs.Copies.{is_nil}
use Rattle.node_rules.specs.Hearing.{all_show, member_of}
use Rattle.node_rules.specs.Notes.{after_ages, neighbours}
use Rattle.node_rules.specs.Tables.{Table, at, contains}
use Rattle.journal_readings.specs.Lines.{has_node}
use Rattle.cluster_rules.specs.World.{World}
use Rattle.key_laws.specs.Order.{KeyAtMost}
use Rattle.key_laws.specs.Sound.{RisesByNumber}
use Rattle.run_laws.specs.Tied.{Among}
use Rattle.calm_laws.specs.Acts.{Gets}
use Rattle.calm_laws.specs.Flows.{Base, Fresh, HeardAs, inbox, look}
use Rattle.calm_laws.specs.Group.{Group, kind}
use Rattle.calm_laws.specs.Stances.{Stance}

-- whether messages of that kind are of agreement: proposals, votes and commits
abbrev pub is_agreeing : ℕ → Bool
is_agreeing k = (k == 2) || ((k == 3) || ((k == 4) || (k == 5)))

-- a message of agreement is of that key and those members, none refuses it, and the tests say whether it may propose,
-- accept or commit
abbrev pub Only : Bool → Bool → Bool → ClusterKey → List Member → Message → Type 0
Only p a c k ms (message.Propose key members) = (p ≡ true) × (key ≡ k) × (members ≡ ms)
Only p a c k ms (message.Accept key) = (a ≡ true) × (key ≡ k)
Only p a c k ms (message.Refuse key promised) = ⊥
Only p a c k ms (message.Commit key members) = (c ≡ true) × (key ≡ k) × (members ≡ ms)
Only p a c k ms _ = Unit {0}

-- the node has entered that view, and nothing since
pub record Inside (k : ClusterKey) (ms : List Member) (s : Stance) : Type 0 where
  pub view : s.view ≡ Some (record { key = k; members = ms })
  pub last : s.agreement.last ≡ k
  pub promised : s.agreement.promised ≡ k
  pub proposal : s.agreement.proposal ≡ None
  pub quiet : s.quiet ≡ 0

-- the node proposes nothing and has promised no greater key; it has entered that view, or none of such a key
pub record Follows (k : ClusterKey) (ms : List Member) (s : Stance) : Type 0 where
  pub promised : KeyAtMost s.agreement.promised k
  pub proposal : s.agreement.proposal ≡ None
  pub last : IsBelow s.agreement.last k ⊎ Inside k ms s

-- the node proposes that view, and somebody hasn't accepted it
pub record Leads (k : ClusterKey) (ms : List Member) (s : Stance) : Type 0 where
  pub promised : s.agreement.promised ≡ k
  pub below : IsBelow s.agreement.last k
  pub stands : Proposal
  pub is : s.agreement.proposal ≡ Some stands
  pub key : stands.key ≡ k
  pub members : stands.members ≡ ms
  pub some : is_nil stands.missing ≡ false

-- ---- a group at a round's begin

-- the list has just the nodes of the group, of which that one is the greatest, and it can be sent
pub record Roll (gs : List ℕ) (g : ℕ) (set : List Member) : Type 0 where
  pub ids : (m : ℕ) → contains (ids_of set) m ≡ has_node gs m
  pub lead : has_node gs g ≡ true
  pub greatest : (m : ℕ) → has_node gs m ≡ true → m ≤ g
  pub fit : AreMembersField set
  pub each : (m : ℕ) → has_node gs m ≡ true → IsId m

-- the neighbours of each at its tick are the group
abbrev pub Sees : List ℕ → List Member → World → Type 0
Sees gs set w = (m : ℕ) → has_node gs m ≡ true → neighbours (after_ages (w.facts m)) ≡ set

-- nobody proposes
abbrev pub NoneProposes : List ℕ → World → Type 0
NoneProposes gs w = (m : ℕ) → has_node gs m ≡ true → (w.facts m).agreement.proposal ≡ None

-- nothing of agreement is on its way
abbrev pub Cleared : List ℕ → World → Type 0
Cleared gs w =
    (m : ℕ) → has_node gs m ≡ true → (from : ℕ) (x : Message) → Among (inbox w m) (Gets from x)
    → is_agreeing (kind x) ≡ false

-- no key that was entered is above the one that was promised
abbrev pub Ordered : List ℕ → World → Type 0
Ordered gs w =
    (m : ℕ) → has_node gs m ≡ true
    → KeyAtMost (w.facts m).agreement.last (w.facts m).agreement.promised

-- the greatest has seen the round of every promise
abbrev pub SeenAll : List ℕ → ℕ → World → Type 0
SeenAll gs g w =
    (m : ℕ) → has_node gs m ≡ true
    → (w.facts m).agreement.promised.round ≤ seen_round (w.facts g).agreement

-- a group at a round's begin, in which a proposal can only be one of the group
pub record Ready (ns gs : List ℕ) (g : ℕ) (set : List Member) (w : World) : Type 0 where
  pub base : Base ns w
  pub group : Group ns gs w
  pub roll : Roll gs g set
  pub sees : Sees gs set w
  pub none : NoneProposes gs w
  pub cleared : Cleared gs w
  pub ordered : Ordered gs w

-- who proposes lacks an answer of some other member, and of other members alone
abbrev pub Lacking : ℕ → Option Proposal → Type 0
Lacking me None = Unit {0}
Lacking me (Some p) =
    (is_nil p.missing ≡ false)
    × ((x : ℕ) → contains p.missing x ≡ true → contains (others_among me p.members) x ≡ true)

-- what was promised and what is proposed has a spelling
pub record Fit (gs : List ℕ) (w : World) : Type 0 where
  pub promised : (m : ℕ) → has_node gs m ≡ true → IsKeyOrNone (w.facts m).agreement.promised
  pub proposed : (m : ℕ) → has_node gs m ≡ true → (p : Proposal)
      → (w.facts m).agreement.proposal ≡ Some p → IsKeyField p.key

-- a group at a round's begin whose nodes all see each other, and may propose
pub record Joined (ns gs : List ℕ) (g : ℕ) (set : List Member) (w : World) : Type 0 where
  pub base : Base ns w
  pub group : Group ns gs w
  pub roll : Roll gs g set
  pub sees : Sees gs set w
  pub cleared : Cleared gs w
  pub fit : Fit gs w
  pub lacking : (m : ℕ) → has_node gs m ≡ true → Lacking m (w.facts m).agreement.proposal

-- ---- whom the nodes of a group hear

-- each hears each other one, by this round's beat, and nobody else
pub record Listens (gs : List ℕ) (w : World) : Type 0 where
  pub near : (a m : ℕ) → has_node gs a ≡ true → has_node gs m ≡ true → (a ≡ m → ⊥)
      → HeardAs (Fresh (w.facts a).role m) (w.facts m).hearing.heard a
  pub others : (a m : ℕ) → has_node gs a ≡ false → has_node gs m ≡ true
      → look (w.facts m).hearing.heard a ≡ None
  pub own : (m : ℕ) → has_node gs m ≡ true → look (w.facts m).hearing.heard m ≡ None
  pub rises : (m : ℕ) → has_node gs m ≡ true → RisesByNumber (w.facts m).hearing.heard

-- the list is that of the group's nodes with their roles
pub record Roster (gs : List ℕ) (set : List Member) (w : World) : Type 0 where
  pub table : Table Role
  pub rises : RisesByNumber table
  pub list : set ≡ reverse (map member_of table)
  pub here : (m : ℕ) → has_node gs m ≡ true → at table m ≡ Some (w.facts m).role
  pub others : (m : ℕ) → has_node gs m ≡ false → at table m ≡ None

-- all of the group are in one view of just it, and the greatest has just entered it or hears that all are in it
pub record Steady (gs : List ℕ) (g : ℕ) (set : List Member) (k : ClusterKey) (w : World)
    : Type 0 where
  pub views : (m : ℕ) → has_node gs m ≡ true
      → (w.facts m).exchange.view ≡ Some (record { key = k; members = set })
  pub calm : ((w.facts g).hearing.quiet ≡ 0) ⊎ (all_show g (w.facts g).hearing.heard k ≡ true)
