-- What a step makes of what is known.
use Rattle.std.specs.Prelude.{◌≡◌, ◌==◌, ◌&&◌, nat_eq, ℕ, Bool, true, false, List, [], ◌∷◌, ◌++◌, ◌+◌, Option, Some, None, is_some}
use Rattle.std.specs.HashMap as hash
use Rattle.conflict_order.specs.declared.policy.Policy.TheVariants.{Time}
use Rattle.cluster_types.specs.declared.cluster_key.ClusterKey.{ClusterKey}
use Rattle.cluster_types.specs.declared.member.Member.{Member}
use Rattle.journal_lines.specs.declared.line.Line.{Line}
use Rattle.journal_lines.specs.declared.line.Line.TheVariants as line
use Rattle.journal_readings.specs.Lines.{same_key}
use Rattle.journal_readings.specs.Views.{some_key}
use Rattle.audit_core.specs.declared.judge.Judge.{Judge}
use Rattle.audit_state.specs.declared.nodes.Node.{Node}
use Rattle.audit_state.specs.declared.stamps.Stamps.{Stamps}
use Rattle.audit_state.specs.declared.views.View.{View}
use Rattle.audit_core.specs.Frames.{Both, SameStand, SameWritten}
use Rattle.audit_core.specs.Known.{node_at, is_declared, kept_view, stamps_at}
use Rattle.audit_state.specs.Nodes.{IsFreshNode}
use Rattle.audit_state.specs.Views.{IsFreshView}
use Rattle.audit_state.specs.Records.{AreNone}
use Rattle.audit_state.specs.Stamps.{whole_changes, stamp_marks, judged_of, wholes_of}
use Rattle.audit_state.specs.Stores.{history_of, held_of, touched_of, holding_of, changes_of}

-- nothing is known but the header: there is neither a record nor a view, and of each node only that
-- it was declared
pub record KnowsNoEvents (s : Judge) : Type 0 where
  pub nodes : (n : ℕ) (node : Node) → node_at s n ≡ Some node → IsFreshNode node
  pub records : AreNone s.records
  pub contents : (n r : ℕ) → history_of s.stores n r ≡ []
  pub held : (n p : ℕ) → held_of s.stores n p ≡ []
  pub touched : (n p : ℕ) → touched_of s.stores n p ≡ []
  pub holding : (n p : ℕ) → holding_of s.stores n p ≡ []
  pub changes : (n p : ℕ) → changes_of s.stores n p ≡ []
  pub views : (k : ClusterKey) → kept_view s k ≡ None
  pub stamps : (n p : ℕ) → stamps_at s n p ≡ None
  pub covers : (c : ℕ) → hash.get nat_eq s.covers c ≡ None

-- nothing is known yet
pub record KnowsNothing (all : List Line) (s : Judge) : Type 0 where
  pub lines : s.lines.now ≡ all
  pub policy : s.by ≡ Time
  pub factor : s.factor ≡ 1
  pub begun : s.begun ≡ false
  pub nodes : (n : ℕ) → node_at s n ≡ None
  pub events : KnowsNoEvents s

-- ---- the header

pub record DeclaresNode (n : ℕ) (old new : Judge) : Type 0 where
  pub rest : record new { nodes = old.nodes } ≡ old
  pub here : (node : Node) → node_at new n ≡ Some node → IsFreshNode node
  pub declared : is_declared new n ≡ true
  pub others : (m : ℕ) → (n == m) ≡ false → node_at new m ≡ node_at old m

-- what a line of the header makes of it
abbrev pub ReadsHeader : Line → Judge → Judge → Type 0
ReadsHeader (line.Factor f) old new = new ≡ record old { factor = f }
ReadsHeader (line.Policy by) old new = new ≡ record old { by = by }
ReadsHeader (line.Node n rack) old new = DeclaresNode n old new
ReadsHeader _ old new = new ≡ old

-- ---- nodes

-- the node stands in the relation to what it was, and all else is as it was
pub record ChangesNode (R : Node → Node → Type 0) (n : ℕ) (old new : Judge) : Type 0 where
  pub rest : record new { nodes = old.nodes } ≡ old
  pub here : Both R (node_at old n) (node_at new n)
  pub others : (m : ℕ) → (n == m) ≡ false → node_at new m ≡ node_at old m

pub record HasClock (time : ℕ) (old new : Node) : Type 0 where
  pub rest : new ≡ record old { clock = time }

pub record HasView (present : Option ClusterKey) (old new : Node) : Type 0 where
  pub view : new.view ≡ present
  pub clock : new.clock ≡ old.clock
  pub exchanged : new.exchanged.items ≡ old.exchanged.items

-- ... and its stay begins, of which there are no records yet
pub record BeginsStay (present : Option ClusterKey) (old new : Node) : Type 0 where
  pub moved : HasView present old new
  pub stay : new.stay.items ≡ []

-- one record more is of its stay
pub record HasChanged (r : ℕ) (old new : Node) : Type 0 where
  pub same : SameStand old new
  pub stay : new.stay.items ≡ old.stay.items ++ r ∷ []

-- these records more are of its stay
pub record HaveChanged (rs : List ℕ) (old new : Node) : Type 0 where
  pub same : SameStand old new
  pub stay : new.stay.items ≡ old.stay.items ++ rs

-- ... and the places of its `exchanged` lines have one more
pub record HasFinished (place : ℕ) (old new : Node) : Type 0 where
  pub view : new.view ≡ old.view
  pub clock : new.clock ≡ old.clock
  pub exchanged : new.exchanged.items ≡ old.exchanged.items ++ place ∷ []
  pub stay : new.stay ≡ old.stay

-- ---- views

-- the view is there, and new where it wasn't
pub record OpensView (k : ClusterKey) (ms : List Member) (old new : Judge) : Type 0 where
  pub rest : record new { views = old.views } ≡ old
  pub known : (x : View) → kept_view old k ≡ Some x → kept_view new k ≡ Some x
  pub fresh : (x : View) → kept_view old k ≡ None → kept_view new k ≡ Some x → IsFreshView k ms x
  pub there : is_some (kept_view new k) ≡ true
  pub others : (l : ClusterKey) → same_key k l ≡ false → kept_view new l ≡ kept_view old l

-- the view stands in the relation to what it was, and all else is as it was
pub record ChangesView (R : View → View → Type 0) (k : ClusterKey) (old new : Judge) : Type 0 where
  pub rest : record new { views = old.views } ≡ old
  pub here : Both R (kept_view old k) (kept_view new k)
  pub others : (l : ClusterKey) → same_key k l ≡ false → kept_view new l ≡ kept_view old l

pub record HasEntry (n place : ℕ) (old new : View) : Type 0 where
  pub key : new.key ≡ old.key
  pub members : new.members ≡ old.members
  pub ranks : new.ranks ≡ old.ranks
  pub entered : new.entered.items ≡ old.entered.items ++ record { node = n; line = place } ∷ []
  pub exchanged : new.exchanged ≡ old.exchanged
  pub written : SameWritten old new

pub record HasExchanged (n : ℕ) (old new : View) : Type 0 where
  pub key : new.key ≡ old.key
  pub members : new.members ≡ old.members
  pub ranks : new.ranks ≡ old.ranks
  pub entered : new.entered ≡ old.entered
  pub exchanged : new.exchanged.items ≡ old.exchanged.items ++ n ∷ []
  pub written : SameWritten old new

-- ---- a node enters, and finishes exchange

-- a view that is known, or else one of which nothing is known but its key and its members
abbrev pub IsKnownOrFresh : ClusterKey → List Member → Option View → View → Type 0
IsKnownOrFresh k ms None x = IsFreshView k ms x
IsKnownOrFresh k ms (Some y) x = x ≡ y

-- the node enters at the place: its stay begins, and one entry more is in the view
pub record EntersView (n place : ℕ) (k : ClusterKey) (ms : List Member) (old new : Judge)
    : Type 0 where
  pub rest : record new { nodes = old.nodes; views = old.views } ≡ old
  pub node : Both (BeginsStay (some_key k)) (node_at old n) (node_at new n)
  pub other_nodes : (m : ℕ) → (n == m) ≡ false → node_at new m ≡ node_at old m
  pub was : View
  pub before : IsKnownOrFresh k ms (kept_view old k) was
  pub now : View
  pub there : kept_view new k ≡ Some now
  pub entry : HasEntry n place was now
  pub other_views : (l : ClusterKey) → same_key k l ≡ false → kept_view new l ≡ kept_view old l

-- ---- stamps

-- what is noted of the copy stands in the relation to what was, and all else is as it was
pub record ChangesStamps (R : Option Stamps → Option Stamps → Type 0) (n p : ℕ) (old new : Judge)
    : Type 0 where
  pub rest : record new { stamps = old.stamps } ≡ old
  pub here : R (stamps_at old n p) (stamps_at new n p)
  pub others : (m q : ℕ) → ((n == m) && (p == q)) ≡ false → stamps_at new m q ≡ stamps_at old m q

-- the same is noted
pub record SameStamps (old new : Option Stamps) : Type 0 where
  pub marks : stamp_marks new ≡ stamp_marks old
  pub judged : judged_of new ≡ judged_of old
  pub wholes : wholes_of new ≡ wholes_of old
  pub there : is_some new ≡ true

-- one mark more is
pub record HasMark (place : ℕ) (value : Option ℕ) (old new : Option Stamps) : Type 0 where
  pub marks : stamp_marks new ≡ stamp_marks old ++ record { line = place; value = value } ∷ []
  pub judged : judged_of new ≡ judged_of old
  pub wholes : wholes_of new ≡ wholes_of old

-- one `exchanged` line more is judged
pub record HasJudged (place : ℕ) (whole : Bool) (old new : Option Stamps) : Type 0 where
  pub marks : stamp_marks new ≡ stamp_marks old
  pub judged : judged_of new ≡ judged_of old + 1
  pub wholes : wholes_of new ≡ wholes_of old ++ whole_changes whole place
  pub there : is_some new ≡ true
