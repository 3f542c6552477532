-- Which copies a view makes whole from the start, by what is known.
use Rattle.std.specs.Prelude.{◌≡◌, ℕ, ◌==◌, ◌<◌, ◌≤◌, length, All, map, Bool, true, false, not, ◌&&◌, List, [], ◌∷◌, take, find, slice_get, unwrap_or, Option, Some, None, is_some, if◌then◌else◌}
use Rattle.std.specs.List.{list_any, list_all}
use Rattle.std.specs.Option.{option_or}
use Rattle.cluster_types.specs.declared.cluster_key.ClusterKey.{ClusterKey}
use Rattle.cluster_types.specs.declared.member.Member.{Member}
use Rattle.cluster_types.specs.Members.{plain_role, role_of}
use Rattle.partition_lists.specs.Lists.{list}
use Rattle.journal_lines.specs.declared.line.Line.{Line}
use Rattle.journal_lines.specs.declared.line.Line.TheVariants as line
use Rattle.journal_readings.specs.Maps.{has_key_above}
use Rattle.audit_core.specs.declared.judge.Judge.{Judge}
use Rattle.audit_core.specs.declared.maps.Whole.{Whole}
use Rattle.audit_state.specs.declared.nodes.Node.{Node}
use Rattle.audit_state.specs.declared.views.View.{View}
use Rattle.audit_state.specs.Histories.{value_after}
use Rattle.journal_readings.specs.Lines.{has_node}
use Rattle.audit_state.specs.declared.stamps.Stamps.{Stamps}
use Rattle.audit_core.specs.Known.{node_at, kept_view, stamps_at}
use Rattle.audit_state.specs.Views.{entry_line}
use Rattle.audit_core.specs.Stamped.{StandInOrder, change_at, whole_of}
use Rattle.audit_state.specs.Stamps.{stamp_marks, judged_of, wholes_of, stamped_key}
use Rattle.audit_state.specs.Stores.{holding_of}

-- whether the node had a record of the partition after so many lines
abbrev pub held_any : Judge → ℕ → ℕ → ℕ → Bool
held_any s n p lines = is_some (value_after (holding_of s.stores n p) lines)

-- whether it had none as it entered at the place
abbrev pub empty_at : Judge → ℕ → ℕ → Option ℕ → Bool
empty_at s n p None = false
empty_at s n p (Some place) = not (held_any s n p place)

-- whether no member of the view had one
abbrev pub empty_in : Judge → ℕ → Option View → Bool
empty_in s p None = true
empty_in s p (Some x) = list_all (λ m. empty_at s m.id p (entry_line x m.id)) x.members

abbrev pub replica_in : ℕ → ℕ → ℕ → Option View → Bool
replica_in factor n p None = false
replica_in factor n p (Some x) = list_any (λ m. m == n) (take factor (list x.ranks p))

-- whether the node's copy is whole from the start in the view
abbrev pub is_whole_at_start : Judge → ClusterKey → ℕ → ℕ → Bool
is_whole_at_start s k n p = empty_in s p (kept_view s k) && replica_in s.factor n p (kept_view s k)

-- whether the node's `exchanged` line makes its copy whole
abbrev pub makes_whole : Judge → ℕ → ℕ → Option Line → Bool
makes_whole s n p (Some (line.Exchanged m k)) = is_whole_at_start s k n p
makes_whole s n p _ = false

-- the places of the node's `exchanged` lines
abbrev pub exchanged_by : Option Node → List ℕ
exchanged_by None = []
exchanged_by (Some node) = node.exchanged.items

-- the key by which the node's copy was whole as it entered at the place, if it had a record
abbrev pub whole_key_at : Judge → ℕ → ℕ → Option ℕ → Option ClusterKey
whole_key_at s n p None = None
whole_key_at s n p (Some place) =
    if held_any s n p place then stamped_key s.lines.now (stamps_at s n p) place else None

-- ---- of some members the one that acts

-- the members of a list with the keys by which their copies were whole
abbrev pub with_keys : (ℕ → Option ClusterKey) → List ℕ → List Whole
with_keys f ids = map (λ n. record { node = n; key = f n }) ids

abbrev pub is_newest : List Whole → Option ClusterKey → Bool
is_newest wholes None = false
is_newest wholes (Some k) = not (list_any (λ w. has_key_above k w.key) wholes)

-- the node of the copy, if there is one
abbrev pub whole_node : Option Whole → Option ℕ
whole_node None = None
whole_node (Some w) = Some w.node

-- the first by whose key no other's is above; the first of all where no copy is whole
abbrev pub first_newest : List Whole → Option ℕ
first_newest wholes =
    option_or (whole_node (find (λ w. is_newest wholes w.key) wholes))
    (whole_node (slice_get wholes 0))

-- a member of the list, with the role that it has in the view
abbrev pub listed_member : List Member → ℕ → Member
listed_member ms n = record { id = n; role = unwrap_or (role_of ms n) plain_role }

-- ---- what was judged

-- each number is below those behind it
abbrev pub AreAscending : List ℕ → Type 0
AreAscending [] = Unit {0}
AreAscending (n ∷ ns) = All (λ m. n < m) ns × AreAscending ns

-- of the first of the node's `exchanged` lines it is noted which of them make its copy whole
pub record JudgesRight (s : Judge) (n p : ℕ) (x : Option Stamps) : Type 0 where
  pub judged : judged_of x ≤ length (exchanged_by (node_at s n))
  pub wholes : (a : ℕ)
      → change_at (wholes_of x) a
      ≡ whole_of
      (has_node (take (judged_of x) (exchanged_by (node_at s n))) a
      && makes_whole s n p (slice_get s.lines.now a)) a
  pub order : StandInOrder (wholes_of x)
  pub lines : All (λ c. has_node (take (judged_of x) (exchanged_by (node_at s n))) c.line ≡ true)
      (wholes_of x)

-- so many of them are judged, and nothing else changed
pub record JudgesSome (n p count : ℕ) (old new : Judge) : Type 0 where
  pub rest : record new { stamps = old.stamps } ≡ old
  pub marks : stamp_marks (stamps_at new n p) ≡ stamp_marks (stamps_at old n p)
  pub right : JudgesRight new n p (stamps_at new n p)
  pub judged : judged_of (stamps_at new n p) ≡ count
  pub there : is_some (stamps_at new n p) ≡ true
  pub others : (m q : ℕ) → ((n == m) && (p == q)) ≡ false → stamps_at new m q ≡ stamps_at old m q
