-- The view that a node has entered, and the rows of its members.
use Rattle.std.specs.Prelude.{ℕ, ◌-◌, ◌==◌, take, Bool, true, false, List, [], ◌∷◌, ◌++◌, Option, Some, None, find, length, if◌then◌else◌}
use Rattle.std.specs.List.{list_any}
use Rattle.cluster_types.specs.declared.cluster_key.ClusterKey.{ClusterKey}
use Rattle.cluster_types.specs.declared.member.Member.{Member}
use Rattle.cluster_types.specs.ClusterKeys as keys
use Rattle.cluster_types.specs.Members.{ids_of}
use Rattle.node_rules.specs.declared.member_row.MemberRow.{MemberRow}
use Rattle.node_rules.specs.Keys.{same_key}
use Rattle.node_rules.specs.Copies.{Row}
use Rattle.node_rules.specs.Map.{lacks}

-- the key and the members of a view
pub record View : Type 0 where
  pub key : ClusterKey
  -- in strictly descending order
  pub members : List Member

-- what the node knows of its view and of its members' copies
pub record Exchange : Type 0 where
  -- the view that the node is in
  pub view : Option View
  -- the rows that it has of the view's members: its own, and those that came, in the order in which they came
  pub rows : List MemberRow
  -- whether it has finished the exchange of rows
  pub exchanged : Bool

-- no view
abbrev pub outside : Exchange
outside = record { view = None; rows = []; exchanged = false }

-- a view whose exchange begins, with the node's own row
abbrev pub begun : ℕ → ClusterKey → List Member → Row → Exchange
begun me key members row = record {
  view = Some (record { key = key; members = members });
  rows = record { node = me; row = row } ∷ [];
  exchanged = false;
}

-- the key of the view, or none
abbrev pub exchange_key : Option View → ClusterKey
exchange_key None = keys.none
exchange_key (Some v) = v.key

-- whether the node is in the view of that key
abbrev pub is_view : Option View → ClusterKey → Bool
is_view None key = false
is_view (Some v) key = same_key v.key key

-- the rows with the member's, unless that is there
abbrev pub with_row : List MemberRow → ℕ → Row → List MemberRow
with_row rows n row =
    if lacks rows n then rows ++ record { node = n; row = row } ∷ [] else rows

-- the exchange is finished
abbrev pub finished : Exchange → Exchange
finished x = record x { exchanged = true }

-- the exchange before its last row came
abbrev pub before_last : Exchange → Exchange
before_last x = record x { rows = take (length x.rows - 1) x.rows; exchanged = false }

-- the first member, in member order, whose row isn't there
abbrev pub first_missing : List MemberRow → List Member → Option ℕ
first_missing rows members = find (lacks rows) (ids_of members)

-- whether the node is one of the members
abbrev pub is_member : List Member → ℕ → Bool
is_member members n = list_any (λ m. m.id == n) members

-- whether there is one member alone
abbrev pub is_single : List Member → Bool
is_single members = length members == 1

-- the members of the view; none without a view
abbrev pub members_of : Option View → List Member
members_of None = []
members_of (Some v) = v.members
