-- What a step leaves as it was.
use Rattle.std.specs.Prelude.{◌≡◌, ℕ, Option, Some, None}
use Rattle.cluster_types.specs.declared.cluster_key.ClusterKey.{ClusterKey}
use Rattle.audit_core.specs.declared.judge.Judge.{Judge}
use Rattle.audit_state.specs.declared.nodes.Node.{Node}
use Rattle.audit_state.specs.declared.views.View.{View}
use Rattle.audit_core.specs.Known.{node_at, kept_view}
use Rattle.audit_state.specs.Views.{SameEntries}

-- both are nothing, or both something that stands in the relation
abbrev pub Both : {A : Type 0} → (A → A → Type 0) → Option A → Option A → Type 0
Both R None None = Unit {0}
Both R (Some a) (Some b) = R a b
Both R None (Some b) = ⊥
Both R (Some a) None = ⊥

-- ---- the frame: all but what nodes hold and what was written

pub record SameStand (old new : Node) : Type 0 where
  pub view : new.view ≡ old.view
  pub clock : new.clock ≡ old.clock
  pub exchanged : new.exchanged.items ≡ old.exchanged.items

-- what nodes hold and what was written and tried may have changed, and nothing else
pub record KeepsFrame (old new : Judge) : Type 0 where
  pub lines : new.lines ≡ old.lines
  pub policy : new.by ≡ old.by
  pub factor : new.factor ≡ old.factor
  pub begun : new.begun ≡ old.begun
  pub nodes : (n : ℕ) → Both SameStand (node_at old n) (node_at new n)
  pub views : (k : ClusterKey) → Both SameEntries (kept_view old k) (kept_view new k)
  pub stamps : new.stamps ≡ old.stamps

-- ---- the stores: what nodes hold, and what was written and tried

pub record SameWritten (old new : View) : Type 0 where
  pub applied : new.applied ≡ old.applied
  pub written : new.written.items ≡ old.written.items
  pub settled : new.settled.items ≡ old.settled.items
  pub writes : new.writes ≡ old.writes
  pub partitions : new.partitions ≡ old.partitions

-- the view and the records of the stay are the same
pub record SameStay (old new : Node) : Type 0 where
  pub view : new.view ≡ old.view
  pub stay : new.stay ≡ old.stay

-- what nodes hold and what was written and tried is as it was, and so is each node's stay
pub record KeepsStores (old new : Judge) : Type 0 where
  pub rest : record new { nodes = old.nodes; views = old.views } ≡ old
  pub nodes : (n : ℕ) → Both SameStay (node_at old n) (node_at new n)
  pub views : (k : ClusterKey) → Both SameWritten (kept_view old k) (kept_view new k)
