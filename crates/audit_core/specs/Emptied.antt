-- What is tried as a list master finishes exchange, by which its partitions are settled that were
-- empty everywhere.
use Rattle.std.specs.Prelude.{ℕ, cond, ◌&&◌, ◌||◌, Bool, List, [], ◌++◌, Option, Some, None}
use Rattle.std.specs.List.{list_any, flat_map}
use Rattle.cluster_types.specs.ClusterKeys.{is_view_key}
use Rattle.cluster_types.specs.declared.cluster_key.ClusterKey.{ClusterKey}
use Rattle.cluster_types.specs.declared.member.Member.{Member}
use Rattle.cluster_types.specs.Partitions.{partition_of}
use Rattle.journal_readings.specs.Lines.{same_key}
use Rattle.audit_core.specs.declared.judge.Judge.{Judge}
use Rattle.audit_core.specs.declared.verdict.Stop.{Stop}
use Rattle.audit_state.specs.declared.nodes.Node.{Node}
use Rattle.audit_state.specs.declared.views.View.{View}
use Rattle.audit_state.specs.Records.{record_digest}
use Rattle.audit_core.specs.Known.{node_at, view_at, kept_view}
use Rattle.audit_core.specs.Settling.{is_master_in}
use Rattle.audit_core.specs.Trying.{SeesLines, IsTrying, StopsTrying, is_digest}
use Rattle.audit_core.specs.Wholes.{empty_in}

-- ---- which records

-- the records that were applied in the view
abbrev pub written_list : Option View → List ℕ
written_list None = []
written_list (Some x) = x.written.items

-- the records that changed at the node since it entered its view
abbrev pub stay_list : Option Node → List ℕ
stay_list None = []
stay_list (Some x) = x.stay.items

-- ... where that is this view
abbrev pub stay_in : Judge → ClusterKey → ℕ → List ℕ
stay_in s k n = cond (is_view_key (view_at s n) k) (stay_list (node_at s n)) []

abbrev pub members_in : Option View → List Member
members_in None = []
members_in (Some x) = x.members

-- the records that were applied in the view, or changed at a member that is in it
abbrev pub moved_in : Judge → ClusterKey → List ℕ
moved_in s k =
    written_list (kept_view s k) ++ flat_map (λ m. stay_in s k m.id) (members_in (kept_view s k))

-- ---- which of them are tried

-- whether the node is the list master, and no member had a record of the partition as it entered
abbrev pub is_empty_for : Judge → ClusterKey → ℕ → ℕ → Bool
is_empty_for s k m p = is_master_in (kept_view s k) m p && empty_in s p (kept_view s k)

-- those that were tried, and of the records of these numbers those whose partition was empty
abbrev pub tried_with_empty : (ClusterKey → List ℕ → Bool) → Judge → ℕ → ClusterKey → List ℕ
    → ClusterKey → List ℕ → Bool
tried_with_empty tried s m k ns l e =
    tried l e
    || (same_key k l
    && (is_empty_for s k m (partition_of e)
    && list_any (λ r. is_digest (record_digest s.records r) e) ns))

-- these records are tried in the view where their partition was empty
unfoldable pub TriesEmpty : ℕ → ClusterKey → List ℕ → Judge → Judge → Type 0
TriesEmpty m k ns old new = (i : ℕ) (tried : ClusterKey → List ℕ → Bool) → SeesLines old i
    → IsTrying old i tried → IsTrying new i (tried_with_empty tried old m k ns)

-- trying stops rightly behind however many lines
unfoldable pub StopsEmpty : Judge → Stop → Type 0
StopsEmpty s x = (i : ℕ) → StopsTrying s i x
