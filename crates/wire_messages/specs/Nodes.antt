-- Nodes and members as fields.
use Rattle.std.specs.Prelude.{ℕ, ◌<◌, ◌≤◌, ◌^◌, nat_lt, ◌==◌, ◌&&◌, ◌||◌, not, Bool, true, if◌then◌else◌, List, [], ◌∷◌, ◌++◌, length, map, flat_map, slice_index, Option, Some, None, Result, Ok, All}
use Rattle.std.specs.List.{list_all}
use Rattle.std.specs.Int.{w16}
use Rattle.cluster_types.specs.declared.member.Member.{Member}
use Rattle.cluster_types.specs.declared.member.Role.{Role}
use Rattle.cluster_types.specs.Distinct.{IsDescending}
use Rattle.cluster_types.specs.Members.{AreMembers, plain_member}
pub use Rattle.cluster_types.specs.Ranges.{IsId}
use Rattle.wire_messages.specs.declared.fault.FieldFault.{FieldFault}
use Rattle.wire_messages.specs.declared.before.Before.{Before}
use Rattle.wire_messages.specs.Fields.{◌>>=◌, field, items_at}
use Rattle.wire_messages.specs.Numbers.{between, positive, number_field, number_at, byte_field, byte_at}

-- ---- ids

unfoldable pub id_field : ℕ → List ℕ
id_field id = number_field w16 id

-- whether the number is below the one before it, if there is one
abbrev pub is_below : Option ℕ → ℕ → Bool
is_below None n = true
is_below (Some before) n = nat_lt n before

-- an id below the one before it
unfoldable pub id_below_at : Option ℕ → List ℕ → Result (ℕ × List ℕ) FieldFault
id_below_at before bytes = number_at w16 (λ n. nat_lt 0 n && is_below before n) bytes

unfoldable pub id_at : List ℕ → Result (ℕ × List ℕ) FieldFault
id_at bytes = number_at w16 positive bytes

-- the same as an item of a list
abbrev pub falling_id_at : Option ℕ → ℕ → List ℕ → Result (ℕ × List ℕ) FieldFault
falling_id_at before after bytes = id_below_at before bytes

abbrev pub with_id : Option ℕ → ℕ → Option ℕ
with_id before id = Some id

-- so many ids, each below the one before it
unfoldable pub falling_ids_at : ℕ → List ℕ → Result (List ℕ × List ℕ) FieldFault
falling_ids_at count bytes = items_at falling_id_at with_id count None bytes

-- the ids of a list, behind their count
unfoldable pub ids_field : List ℕ → List ℕ
ids_field ids = byte_field (length ids) ++ flat_map id_field ids

-- a list of least to most ids
unfoldable pub ids_at : ℕ → ℕ → List ℕ → Result (List ℕ × List ℕ) FieldFault
ids_at least most bytes = do
  count ← byte_at (between least most) bytes
  falling_ids_at count.0 count.1

-- the other nodes that a node hears
pub record AreHeard (ids : List ℕ) : Type 0 where
  pub limit : length ids ≤ 15
  pub descending : IsDescending ids
  pub each : All IsId ids

-- an id, whatever stands before it
abbrev pub any_id_at : Option ℕ → ℕ → List ℕ → Result (ℕ × List ℕ) FieldFault
any_id_at before after bytes = id_at bytes

abbrev pub with_any_id : Option ℕ → ℕ → Option ℕ
with_any_id before id = before

-- the acting nodes of all partitions, in any order
unfoldable pub table_at : List ℕ → Result (List ℕ × List ℕ) FieldFault
table_at bytes = items_at any_id_at with_any_id 4096 None bytes

-- ---- roles

-- the rack, and a mark that is 1 where the node is quiesced
unfoldable pub role_field : Role → List ℕ
role_field role = role.rack ∷ (if role.quiesced then 1 else 0) ∷ []

-- whether the role has no rack and isn't quiesced
abbrev pub is_plain : Role → Bool
is_plain role = (role.rack == 0) && not role.quiesced

-- the role of a rack and a mark; the mark is 0 or 1, and a plain role may be barred
abbrev pub role_of_bytes : Bool → List ℕ → Option Role
role_of_bytes plain_allowed bytes =
    let role : Role = record { rack = slice_index bytes 0; quiesced = slice_index bytes 1 == 1 } in
    if nat_lt (slice_index bytes 1) 2 && (plain_allowed || not (is_plain role)) then Some role
    else None

unfoldable pub role_at : Bool → List ℕ → Result (Role × List ℕ) FieldFault
role_at plain_allowed bytes = field 2 (role_of_bytes plain_allowed) bytes

-- ---- members

abbrev pub all_plain : List Member → Bool
all_plain members = list_all (λ m. is_plain m.role) members

-- members of plain roles as their ids
unfoldable pub plain_members_field : List Member → List ℕ
plain_members_field members = byte_field (length members) ++ flat_map (λ m. id_field m.id) members

unfoldable pub plain_members_at : List ℕ → Result (List Member × List ℕ) FieldFault
plain_members_at bytes = do
  ids ← ids_at 1 16 bytes
  Ok (map plain_member ids.0, ids.1)

-- members as ids, each with a role behind it
unfoldable pub member_field : Member → List ℕ
member_field m = id_field m.id ++ role_field m.role

unfoldable pub members_field : List Member → List ℕ
members_field members = byte_field (length members) ++ flat_map member_field members

abbrev pub nobody_before : Before
nobody_before = record { id = None; plain = true }

abbrev pub with_member : Before → Member → Before
with_member before m = record { id = Some m.id; plain = before.plain && is_plain m.role }

-- the last role may not be plain where all before it are: such members have another spelling
unfoldable pub member_at : Before → ℕ → List ℕ → Result (Member × List ℕ) FieldFault
member_at before after bytes = do
  id ← id_below_at before.id bytes
  role ← role_at (not (before.plain && (after == 0))) id.1
  Ok (record { id = id.0; role = role.0 }, role.1)

unfoldable pub members_at : List ℕ → Result (List Member × List ℕ) FieldFault
members_at bytes = do
  count ← byte_at (between 1 16) bytes
  items_at member_at with_member count.0 nobody_before count.1

pub record FitsMember (m : Member) : Type 0 where
  pub id : IsId m.id
  pub rack : m.role.rack < 2 ^ 8

pub record AreMembersField (members : List Member) : Type 0 where
  pub view : AreMembers members
  pub fit : All FitsMember members
