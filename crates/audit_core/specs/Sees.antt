-- What the auditor knows after so many lines is what they say.
use Rattle.std.specs.Prelude.{◌≡◌, ℕ, ◌==◌, ◌&&◌, Bool, true, false, not, List, [], Some, is_some, take, length, option_map, IsTrue}
use Rattle.std.specs.List.{list_any, list_all, count_by}
use Rattle.cluster_types.specs.declared.cluster_key.ClusterKey.{ClusterKey}
use Rattle.cluster_types.specs.Partitions.{partition_of}
use Rattle.journal_lines.specs.declared.line.Line.{Line}
use Rattle.journal_lines.specs.declared.line.Line.TheVariants as line
use Rattle.journal_readings.specs.Lines.{has_node, lines_before, is_enter, is_exchanged, is_settled_line, is_done_line}
use Rattle.journal_readings.specs.Settings.{policy_of, factor_of, nodes, clock_of}
use Rattle.journal_readings.specs.Contents.{content}
use Rattle.journal_readings.specs.Views.{view, members, master, is_replica}
use Rattle.journal_readings.specs.Entries.{entry, fold_of}
use Rattle.journal_readings.specs.Settled.{is_settled, is_open_write}
use Rattle.journal_readings.specs.Shape.{is_header}
use Rattle.audit_laws.specs.Fits.{enters_key}
use Rattle.audit_core.specs.declared.judge.Judge.{Judge}
use Rattle.audit_state.specs.declared.nodes.Node.{Node}
use Rattle.audit_state.specs.declared.views.View.{View}
use Rattle.audit_core.specs.Covering.{SeesCovers}
use Rattle.audit_core.specs.Known.{node_at, is_declared, kept_view, stamps_at}
use Rattle.audit_state.specs.Views.{entry_line, has_exchanged}
use Rattle.audit_state.specs.OpenWrites.{is_done_write, open_of}
use Rattle.audit_state.specs.Records.{record_number, record_digest}
use Rattle.audit_core.specs.Stamped.{SeesStamps, exchanged_places}
use Rattle.audit_core.specs.Steps.{KnowsNoEvents}
use Rattle.audit_core.specs.Stored.{SeesStores}
use Rattle.audit_state.specs.Written.{Stand, stand_of}

-- ---- the run as a whole, the nodes and the views

pub record SeesHeader (s : Judge) (j : List Line) : Type 0 where
  pub policy : s.by ≡ policy_of j
  pub factor : s.factor ≡ factor_of j
  pub declared : (n : ℕ) → is_declared s n ≡ has_node (nodes j) n

pub record SeesNode (j : List Line) (n : ℕ) (node : Node) : Type 0 where
  pub clock : node.clock ≡ clock_of n j
  pub view : node.view ≡ view n j
  pub exchanged : node.exchanged.items ≡ exchanged_places n j

pub record SeesView (j : List Line) (k : ClusterKey) (v : View) : Type 0 where
  pub key : v.key ≡ k
  pub ranks : v.ranks ≡ members k j
  pub members : v.members ≡ members k j
  pub entered : (n : ℕ) → entry_line v n ≡ option_map length (lines_before (is_enter k n) j)
  pub exchanged : (n : ℕ) → has_exchanged v n ≡ list_any (is_exchanged k n) j

-- all but what nodes hold and what was written
pub record SeesFrame (s : Judge) (j : List Line) : Type 0 where
  pub header : SeesHeader s j
  pub nodes : (n : ℕ) (node : Node) → node_at s n ≡ Some node → SeesNode j n node
  pub known_views : (k : ClusterKey) → is_some (kept_view s k) ≡ list_any (enters_key k) j
  pub views : (k : ClusterKey) (x : View) → kept_view s k ≡ Some x → SeesView j k x
  pub stamps : (n p : ℕ) → SeesStamps (factor_of j) j n p (stamps_at s n p)

-- ---- what was settled and tried

-- whether the partition is settled by a line, and how many writes of the list master are open
pub record SeesStand (j : List Line) (k : ClusterKey) (p : ℕ) (x : Stand) : Type 0 where
  pub settled : x.settled ≡ list_any (is_settled_line k (master k p j) p) j
  pub open_writes : x.open_writes ≡ count_by (is_open_write k p (master k p j) j) j

-- the partition is settled in the view, and the list master is in it
pub record IsBound (k : ClusterKey) (p : ℕ) (j : List Line) : Type 0 where
  pub settled : is_settled k p j ≡ true
  pub remains : view (master k p j) j ≡ Some k

-- each replica in the view holds the fold of the record
abbrev pub AllJoin : ClusterKey → List ℕ → List Line → Type 0
AllJoin k d j =
    (r : ℕ) → IsTrue (is_replica (factor_of j) k (partition_of d) r j) → view r j ≡ Some k
    → content (policy_of j) r d j ≡ fold_of (policy_of j) k d j

-- nothing of the partition is to be tried
pub record HasNoDoubts (x : Stand) : Type 0 where
  pub tried : x.untried ≡ false
  pub suspects : x.suspects ≡ []

-- the record of the digest is to be tried
abbrev pub IsSuspect : Judge → Stand → List ℕ → Type 0
IsSuspect s x d = (r : ℕ) × (record_number s.records d ≡ Some r) × (has_node x.suspects r ≡ true)

-- where no write is open nothing is to be tried; of a partition that was tried all records join but
-- those that are to be
pub record IsTried (s : Judge) (j : List Line) (k : ClusterKey) (p : ℕ) (x : Stand) : Type 0 where
  pub closed : x.open_writes ≡ 0 → HasNoDoubts x
  pub joined : x.untried ≡ false → (d : List ℕ) → partition_of d ≡ p → (IsSuspect s x d → ⊥)
      → AllJoin k d j

-- of each partition of a known view: nothing is to be tried before it is settled; where it is
-- bound, it was tried
pub record SeesTried (s : Judge) (j : List Line) : Type 0 where
  pub stands : (k : ClusterKey) (p : ℕ) (x : View) → kept_view s k ≡ Some x
      → SeesStand j k p (stand_of x p)
  pub listed : (k : ClusterKey) (p : ℕ) (x : View) → kept_view s k ≡ Some x
      → has_node x.settled.items p ≡ (stand_of x p).settled
  pub unsettled : (k : ClusterKey) (p : ℕ) (x : View) → kept_view s k ≡ Some x
      → is_settled k p j ≡ false → HasNoDoubts (stand_of x p)
  pub tried : (k : ClusterKey) (p : ℕ) (x : View) → kept_view s k ≡ Some x → IsBound k p j
      → IsTried s j k p (stand_of x p)

-- ---- the writes of a view

-- whether it is the node's write of this transaction of the partition in the view that not each
-- other replica has
abbrev pub is_open_in : ClusterKey → ℕ → ℕ → ℕ → List Line → Line → Bool
is_open_in k p n t j (line.Apply m l u d v) =
    (u == t) && is_open_write k p n j (line.Apply m l u d v)
is_open_in k p n t j _ = false

-- of each transaction in a known view: whether its `done` line stands, and the partition of each of
-- its open writes as one of the list master
pub record SeesWrites (s : Judge) (j : List Line) : Type 0 where
  pub done : (k : ClusterKey) (x : View) (n t : ℕ) → kept_view s k ≡ Some x
      → is_done_write x n t ≡ list_any (is_done_line k n t) j
  pub open_writes : (k : ClusterKey) (x : View) (n t p : ℕ) → kept_view s k ≡ Some x
      → master k p j ≡ n
      → count_by (λ q. q == p) (open_of x n t) ≡ count_by (is_open_in k p n t j) j
  pub by_master : (k : ClusterKey) (x : View) (n t p : ℕ) → kept_view s k ≡ Some x
      → has_node (open_of x n t) p ≡ true → master k p j ≡ n

-- ---- the records of a stay

-- what a node in a view holds of each record but those of its stay is what it held as it entered
pub record SeesStays (s : Judge) (j : List Line) : Type 0 where
  pub unchanged : (n r : ℕ) (node : Node) (k : ClusterKey) (d : List ℕ) → node_at s n ≡ Some node
      → node.view ≡ Some k
      → record_digest s.records r ≡ Some d → has_node node.stay.items r ≡ false
      → content (policy_of j) n d j ≡ entry (policy_of j) k n d j

-- ---- all of it

-- what is known after the first lines, this many, of all, but whether one of them was none of a
-- header
pub record SeesState (s : Judge) (i : ℕ) (all : List Line) : Type 0 where
  pub lines : s.lines.now ≡ all
  pub frame : SeesFrame s (take i all)
  pub stores : SeesStores s i all (take i all)
  pub tried : SeesTried s (take i all)
  pub covers : SeesCovers s i
  pub writes : SeesWrites s (take i all)
  pub stays : SeesStays s (take i all)

pub record SeesJournal (s : Judge) (i : ℕ) (all : List Line) : Type 0 where
  pub state : SeesState s i all
  pub begun : s.begun ≡ not (list_all is_header (take i all))
  pub bare : list_all is_header (take i all) ≡ true → KnowsNoEvents s
