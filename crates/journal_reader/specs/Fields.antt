-- What the fields of a line say. Each reader answers the one value that is written so, and None where there is none.
use Rattle.std.specs.Prelude.{ℕ, ◌-◌, ◌==◌, nat_lt, nat_le, Bool, true, false, not, ◌&&◌, if◌then◌else◌, List, [], ◌∷◌, length, Option, Some, None, codes}
use Rattle.std.specs.List.{slice_split, list_all, list_any, concat}
use Rattle.std.specs.Global.{Vec}
use Rattle.std.specs.Str.{bytes_eq}
use Rattle.std.specs.Str.Parse.{digits_value}
use Rattle.std.specs.Fmt.{decimal}
use Rattle.std.specs.Option.{option_map, option_or, option_and_then}
use Rattle.std.specs.Result.{result_ok}
use Rattle.hex.specs.Hex.{decode_of, decode_sized}
use Rattle.conflict_order.specs.declared.version.Version.{Version}
use Rattle.conflict_order.specs.declared.version.Body.{Body}
use Rattle.conflict_order.specs.declared.version.Body.TheVariants as body
use Rattle.conflict_order.specs.declared.policy.Policy.{Policy}
use Rattle.conflict_order.specs.declared.policy.Policy.TheVariants as policy
use Rattle.conflict_order.specs.declared.want.Action.{Action}
use Rattle.conflict_order.specs.declared.want.Action.TheVariants as action
use Rattle.cluster_types.specs.declared.cluster_key.ClusterKey.{ClusterKey}
use Rattle.cluster_types.specs.declared.member.Role.{Role}
use Rattle.cluster_types.specs.declared.member.Member.{Member}
use Rattle.cluster_types.specs.Members.{ids_of, plain_member}
pub use Rattle.wire_messages.specs.Fields.{if_allowed}

-- ---- fields one after another

-- the parts of a text, with such a byte between two of them
abbrev pub parts_of : ℕ → List ℕ → List (List ℕ)
parts_of byte text = slice_split (λ b. b == byte) text

-- what fields say, all of them
abbrev pub Reader : Type 0 → Type 0
Reader A = List (List ℕ) → Option A

-- no field is left
unfoldable pub at_end : {A : Type 0} → A → Reader A
at_end x [] = Some x
at_end x (field ∷ fields) = None

-- the first field's value, and the fields behind it
unfoldable pub first_field : {A : Type 0} → (List ℕ → Option A) → List (List ℕ)
    → Option (A × List (List ℕ))
first_field read [] = None
first_field read (field ∷ fields) = option_map (λ x. (x, fields)) (read field)

-- the first field, and what the fields behind it say then
unfoldable pub with_field : {A B : Type 0} → (List ℕ → Option A) → (A → Reader B) → Reader B
with_field read next fields = option_and_then (λ x. next x.0 x.1) (first_field read fields)

-- what all fields that are left say
unfoldable pub with_rest : {A B : Type 0} → Reader A → (A → B) → Reader B
with_rest read make fields = option_map make (read fields)

-- what each field says
unfoldable pub all_of : {A : Type 0} → (List ℕ → Option A) → Reader (List A)
all_of read [] = Some []
all_of read (field ∷ fields) =
    option_and_then (λ x. option_map (λ xs. x ∷ xs) (all_of read fields)) (read field)

-- the items of a vector, if there is one
abbrev pub option_items : {A : Type 0} → Option (Vec A) → Option (List A)
option_items None = None
option_items (Some v) = Some v.items

-- ---- numbers

-- whether the text is how the number is written in decimal digits
abbrev pub is_written : ℕ → List ℕ → Bool
is_written n text = bytes_eq (decimal n) text

-- a number from least to most in decimal digits, without a leading zero
unfoldable pub number_in : ℕ → ℕ → List ℕ → Option ℕ
number_in least most text =
    let n = digits_value 10 text in
    if nat_le least n && nat_le n most && is_written n text then Some n else None

abbrev pub script_version_of : List ℕ → Option ℕ
script_version_of field = number_in 1 2 field

abbrev pub parsed_factor : List ℕ → Option ℕ
parsed_factor field = number_in 1 4 field

-- a node's id
abbrev pub parsed_node : List ℕ → Option ℕ
parsed_node field = number_in 1 65535 field

-- a node's id, or 0 for the client
abbrev pub endpoint_of : List ℕ → Option ℕ
endpoint_of field = number_in 0 65535 field

abbrev pub parsed_partition : List ℕ → Option ℕ
parsed_partition field = number_in 0 4095 field

abbrev pub rack_of : List ℕ → Option ℕ
rack_of field = number_in 0 255 field

-- the number of a message, a time or a count
abbrev pub long_of : List ℕ → Option ℕ
long_of field = number_in 0 18446744073709551615 field

-- the number of a transaction, a proxy, a call or a scan
abbrev pub number_of : List ℕ → Option ℕ
number_of field = number_in 1 4294967295 field

-- how many records a page has
abbrev pub parsed_count : List ℕ → Option ℕ
parsed_count field = number_in 0 4294967295 field

-- the round and the principal, with a dot between them
unfoldable pub parsed_key : List ℕ → Option ClusterKey
parsed_key field =
    with_field (number_in 1 281474976710655)
    (λ round. with_field (number_in 1 65535)
    (λ principal. at_end (record { round = round; principal = principal }))) (parts_of 46 field)

-- ---- words

unfoldable pub parsed_policy : List ℕ → Option Policy
parsed_policy field =
    if bytes_eq field (codes "time") then Some policy.Time
    else if bytes_eq field (codes "generation") then Some policy.Generation
    else None

unfoldable pub parsed_action : List ℕ → Option Action
parsed_action field =
    if bytes_eq field (codes "get") then Some action.Get
    else if bytes_eq field (codes "put") then Some action.Put
    else if bytes_eq field (codes "del") then Some action.Del
    else None

-- ---- bytes

-- whether it is a hexadecimal digit in upper case
abbrev pub is_capital : ℕ → Bool
is_capital b = nat_le 65 b && nat_le b 70

-- bytes as hexadecimal digits in lower case
unfoldable pub parsed_bytes : List ℕ → Option (List ℕ)
parsed_bytes field = if list_any is_capital field then None else result_ok (decode_of field)

-- twenty bytes
unfoldable pub parsed_digest : List ℕ → Option (List ℕ)
parsed_digest field = if list_any is_capital field then None else result_ok (decode_sized field 20)

-- at most 128 bytes
unfoldable pub parsed_value : List ℕ → Option (List ℕ)
parsed_value field = option_and_then (if_allowed (λ bytes. nat_le (length bytes) 128))
    (parsed_bytes field)

-- ---- versions

-- a field of which nothing is left
abbrev pub nothing_of : List ℕ → Option (List ℕ)
nothing_of [] = Some []
nothing_of (b ∷ bytes) = None

-- a generation and the body behind it: a tombstone's mark
unfoldable pub tombstone_of : List ℕ → Option (ℕ × Body)
tombstone_of text =
    with_field number_of
    (λ generation. with_field nothing_of (λ rest. at_end (generation, body.Tombstone)))
    (parts_of 45 text)

-- a generation and the body behind it: a value's mark and its bytes
unfoldable pub written_value_of : List ℕ → Option (ℕ × Body)
written_value_of text =
    with_field number_of
    (λ generation. with_field parsed_value (λ bytes. at_end (generation, body.Value bytes)))
    (parts_of 61 text)

unfoldable pub stamp_of : List ℕ → Option (ℕ × Body)
stamp_of text = option_or (written_value_of text) (tombstone_of text)

-- the time, and behind a dot the generation and the body
unfoldable pub parsed_version : List ℕ → Option Version
parsed_version field =
    with_field long_of
    (λ time. with_field stamp_of
    (λ stamp. at_end (record { lut = time; generation = stamp.0; body = stamp.1 })))
    (parts_of 46 field)

unfoldable pub optional_of : List ℕ → Option (Option Version)
optional_of field =
    if bytes_eq field (codes "none") then Some None else option_map Some (parsed_version field)

-- ---- members

-- a rack behind the slash: above 0, or with the mark of a quiesced node
unfoldable pub role_in : Reader Role
role_in [] = None
role_in (rack ∷ []) = option_map (λ n. record { rack = n; quiesced = false }) (number_in 1 255 rack)
role_in (rack ∷ mark ∷ fields) =
    with_field rack_of
    (λ n. with_field nothing_of (λ rest. at_end (record { rack = n; quiesced = true })))
    (rack ∷ mark ∷ fields)

unfoldable pub parsed_role : List ℕ → Option Role
parsed_role text = role_in (parts_of 113 text)

-- an id alone, or behind it a slash and the rack
unfoldable pub parsed_member_parts : Reader Member
parsed_member_parts [] = None
parsed_member_parts (id ∷ []) = option_map plain_member (parsed_node id)
parsed_member_parts (id ∷ role ∷ fields) =
    with_field parsed_node (λ n. with_field parsed_role (λ r. at_end (record { id = n; role = r })))
    (id ∷ role ∷ fields)

unfoldable pub parsed_member : List ℕ → Option Member
parsed_member text = parsed_member_parts (parts_of 47 text)

-- members with commas between them, or the word for none
unfoldable pub some_members_of : List ℕ → Option (List Member)
some_members_of field =
    if bytes_eq field (codes "none") then Some [] else all_of parsed_member (parts_of 44 field)

-- whether the relation holds of each item and each later one
abbrev pub holds_of_pairs : {A : Type 0} → (A → A → Bool) → List A → Bool
holds_of_pairs related [] = true
holds_of_pairs related (x ∷ xs) = list_all (related x) xs && holds_of_pairs related xs

-- at most 16, each id below those before it, and not none
unfoldable pub are_members : List Member → Bool
are_members members =
    nat_lt 0 (length members) && nat_le (length members) 16
    && holds_of_pairs (λ x y. nat_lt y x) (ids_of members)

-- at most 16, no id twice
unfoldable pub are_distinct_ids : List ℕ → Bool
are_distinct_ids ids = nat_le (length ids) 16 && holds_of_pairs (λ x y. not (x == y)) ids

-- the members of a view
unfoldable pub parsed_members : List ℕ → Option (List Member)
parsed_members field = option_and_then (if_allowed are_members) (some_members_of field)

abbrev pub are_distinct_members : List Member → Bool
are_distinct_members members = are_distinct_ids (ids_of members)

-- members in any order
unfoldable pub list_of : List ℕ → Option (List Member)
list_of field = option_and_then (if_allowed are_distinct_members) (some_members_of field)

-- ---- groups

-- whether the field is a bar
abbrev pub is_bar : List ℕ → Bool
is_bar field = bytes_eq field (codes "|")

-- a group by its ids
unfoldable pub parsed_group : Reader (List ℕ)
parsed_group fields = option_and_then (if_allowed are_distinct_ids) (all_of parsed_node fields)

-- each group by its ids
unfoldable pub each_group_of : List (List (List ℕ)) → Option (List (List ℕ))
each_group_of [] = Some []
each_group_of (part ∷ parts) =
    option_and_then (λ ids. option_map (λ groups. ids ∷ groups) (each_group_of parts))
    (parsed_group part)

-- 1 to 16 groups, none empty, with at most 16 ids in all and none twice
unfoldable pub are_groups : List (List ℕ) → Bool
are_groups groups =
    nat_lt 0 (length groups) && nat_le (length groups) 16
    && list_all (λ ids. nat_lt 0 (length ids)) groups && are_distinct_ids (concat groups)

-- groups with bars between them
unfoldable pub parsed_groups : Reader (List (List ℕ))
parsed_groups fields = option_and_then (if_allowed are_groups)
    (each_group_of (slice_split is_bar fields))
