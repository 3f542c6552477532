-- What the auditor has of a node, a view and a copy.
use Rattle.std.specs.Prelude.{ℕ, Bool, Option, Some, None, nat_eq, is_some}
use Rattle.std.specs.HashMap as hash
use Rattle.cluster_types.specs.declared.cluster_key.ClusterKey.{ClusterKey}
use Rattle.audit_core.specs.declared.judge.Judge.{Judge}
use Rattle.audit_state.specs.declared.nodes.Node.{Node}
use Rattle.audit_state.specs.declared.stamps.Stamps.{Stamps}
use Rattle.audit_state.specs.declared.views.View.{View}
use Rattle.audit_state.specs.Keys.{key_pair, pair_eq}

-- ---- nodes

-- the node of that id
abbrev pub node_at : Judge → ℕ → Option Node
node_at s n = hash.get nat_eq s.nodes n

abbrev pub is_declared : Judge → ℕ → Bool
is_declared s n = is_some (node_at s n)

-- the key of its view
abbrev pub view_in : Option Node → Option ClusterKey
view_in None = None
view_in (Some node) = node.view

abbrev pub view_at : Judge → ℕ → Option ClusterKey
view_at s n = view_in (node_at s n)

-- ---- views

-- what is kept of the view of the key
abbrev pub kept_view : Judge → ClusterKey → Option View
kept_view s k = hash.get pair_eq s.views (key_pair k)

-- ---- stamps

-- what is known of the stamp of the node's copy
abbrev pub stamps_at : Judge → ℕ → ℕ → Option Stamps
stamps_at s n p = hash.get pair_eq s.stamps (n, p)
