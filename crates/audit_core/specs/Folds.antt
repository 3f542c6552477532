-- The fold of a view, as it is known.
use Rattle.std.specs.Prelude.{◌≡◌, ℕ, nat_eq, fold, take, Option, Some, None, option_and_then}
use Rattle.std.specs.HashMap as hash
use Rattle.conflict_order.specs.declared.version.Version.{Version}
use Rattle.conflict_order.specs.Join.{join}
use Rattle.cluster_types.specs.declared.cluster_key.ClusterKey.{ClusterKey}
use Rattle.audit_core.specs.declared.judge.Judge.{Judge}
use Rattle.audit_state.specs.declared.nodes.Node.{Node}
use Rattle.audit_state.specs.declared.views.View.{View}
use Rattle.audit_state.specs.Histories.{value_after}
use Rattle.audit_core.specs.Known.{node_at, kept_view}
use Rattle.audit_state.specs.Views.{entry_line}
use Rattle.audit_state.specs.Places.{placed}
use Rattle.audit_core.specs.Sees.{SeesView}
use Rattle.audit_core.specs.Stored.{Knows}
use Rattle.audit_state.specs.Stores.{history_of}

-- the place of the version that the member held of the record as it entered the view
abbrev pub entry_place : Judge → View → ℕ → ℕ → Option ℕ
entry_place s x r n = option_and_then (λ a. value_after (history_of s.stores n r) a)
    (entry_line x n)

-- the join of what was applied in the view and of what its members held as they entered
abbrev pub folded_in : Judge → View → ℕ → Option Version
folded_in s x r =
    fold (λ v m. join s.by v (placed s.lines.now (entry_place s x r m.id)))
    (placed s.lines.now (hash.get nat_eq x.applied r)) x.members

abbrev pub folded : Judge → Option View → ℕ → Option Version
folded s None r = None
folded s (Some x) r = folded_in s x r

-- the view is known, after the first lines, this many, which keep the laws
pub record KnowsView (s : Judge) (i : ℕ) (k : ClusterKey) (x : View) : Type 0 where
  pub knows : Knows s i
  pub there : kept_view s k ≡ Some x
  pub sees : SeesView (take i s.lines.now) k x

-- the clock of a node
abbrev pub clock_in : Option Node → ℕ
clock_in None = 0
clock_in (Some x) = x.clock

abbrev pub clock_at : Judge → ℕ → ℕ
clock_at s n = clock_in (node_at s n)
