-- Keys of views as fields.
use Rattle.std.specs.Prelude.{◌≡◌, ℕ, ◌+◌, ◌*◌, ◌/◌, ◌%◌, ◌<◌, ◌^◌, nat_lt, ◌==◌, ◌&&◌, ◌||◌, ◌⊎◌, Bool, List, Result}
use Rattle.std.specs.Int.{w64, to_be_bytes, from_be_bytes}
use Rattle.cluster_types.specs.declared.cluster_key.ClusterKey.{ClusterKey}
use Rattle.cluster_types.specs.ClusterKeys.{IsKey, none}
use Rattle.wire_messages.specs.declared.fault.FieldFault.{FieldFault}
use Rattle.wire_messages.specs.Fields.{if_allowed, field}

-- the round in the six high bytes, and the principal in the two low ones
abbrev pub key_number : ClusterKey → ℕ
key_number key = key.round * 65536 + key.principal

abbrev pub key_of : ℕ → ClusterKey
key_of n = record { round = n / 65536; principal = n % 65536 }

unfoldable pub key_field : ClusterKey → List ℕ
key_field key = to_be_bytes w64 (key_number key)

-- whether there is a round and a principal
abbrev pub is_key : ClusterKey → Bool
is_key key = nat_lt 0 key.round && nat_lt 0 key.principal

abbrev pub is_none : ClusterKey → Bool
is_none key = (key.round == 0) && (key.principal == 0)

unfoldable pub key_where : (ClusterKey → Bool) → List ℕ → Result (ClusterKey × List ℕ) FieldFault
key_where allowed bytes = field 8 (λ b. if_allowed allowed (key_of (from_be_bytes w64 b))) bytes

-- the key of some view
unfoldable pub key_at : List ℕ → Result (ClusterKey × List ℕ) FieldFault
key_at bytes = key_where is_key bytes

-- the key of some view, or none
unfoldable pub key_or_none_at : List ℕ → Result (ClusterKey × List ℕ) FieldFault
key_or_none_at bytes = key_where (λ key. is_none key || is_key key) bytes

-- the key of some view, led by a node that has an id
pub record IsKeyField (key : ClusterKey) : Type 0 where
  pub view : IsKey key
  pub fits : key.principal < 2 ^ 16

abbrev pub IsKeyOrNone : ClusterKey → Type 0
IsKeyOrNone key = (key ≡ none) ⊎ IsKeyField key
