-- Members of views, and the lists of them.
use Rattle.std.specs.Prelude.{◌==◌, ℕ, ◌<◌, ◌≤◌, List, length, map, find, ◌&&◌, Bool, false, Option, unwrap_or}
use Rattle.std.specs.Option.{option_map}
use Rattle.std.specs.Bool.{beq}
use Rattle.cluster_types.specs.Distinct.{AreDistinct, IsDescending}
use Rattle.cluster_types.specs.declared.member.Member.{Member}
use Rattle.cluster_types.specs.declared.member.Role.{Role}

-- no rack, and not quiesced
abbrev pub plain_role : Role
plain_role = record { rack = 0; quiesced = false }

-- a node with the plain role
abbrev pub plain_member : ℕ → Member
plain_member n = record { id = n; role = plain_role }

-- the ids of members, in their order
abbrev pub ids_of : List Member → List ℕ
ids_of members = map (λ m. m.id) members

-- the role of the node among the members, if it is one of them
abbrev pub role_of : List Member → ℕ → Option Role
role_of members n = option_map (λ m. m.role) (find (λ m. m.id == n) members)

-- the nodes with the roles that they have among the members, or plain ones
abbrev pub with_roles : List Member → List ℕ → List Member
with_roles ms ids = map (λ n. record { id = n; role = unwrap_or (role_of ms n) plain_role }) ids

-- the members of a view: 1 to 16, each id below those before it
pub record AreMembers (members : List Member) : Type 0 where
  pub some : 0 < length members
  pub limit : length members ≤ 16
  pub descending : IsDescending (ids_of members)

-- at most sixteen members, no id twice
pub record AreDistinctMembers (members : List Member) : Type 0 where
  pub limit : length members ≤ 16
  pub distinct : AreDistinct (ids_of members)

-- whether the two are the same node with the same role
abbrev pub same_member : Member → Member → Bool
same_member a b =
    (a.id == b.id) && ((a.role.rack == b.role.rack) && beq a.role.quiesced b.role.quiesced)
