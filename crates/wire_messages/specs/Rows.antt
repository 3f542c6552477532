-- Bit rows and rows of copy states as fields.
use Rattle.std.specs.Prelude.{◌≡◌, ℕ, ◌^◌, ◌<◌, nat_lt, ◌==◌, ◌&&◌, Bool, true, if◌then◌else◌, List, [], ◌∷◌, ◌++◌, length, flat_map, Option, Some, None, Result, Ok, All}
use Rattle.std.specs.Int.{w16, w32}
use Rattle.cluster_types.specs.declared.copy_state.CopyState.{CopyState}
use Rattle.cluster_types.specs.declared.copy_state.CopyState.TheVariants.{Empty, Part, Whole}
use Rattle.cluster_types.specs.Partitions.{partition_count}
use Rattle.cluster_types.specs.RowBytes.{bits_of}
use Rattle.cluster_types.specs.StateRows.{IsStateRow}
use Rattle.wire_messages.specs.declared.fault.FieldFault.{FieldFault}
use Rattle.wire_messages.specs.Fields.{◌>>=◌, field, items_at}
use Rattle.wire_messages.specs.Numbers.{every, between, number_field, number_at, byte_at}
use Rattle.wire_messages.specs.Keys.{key_field, key_at, IsKeyField}

-- ---- bit rows

unfoldable pub row_at : List ℕ → Result (List Bool × List ℕ) FieldFault
row_at bytes = field 512 (λ b. Some (bits_of b)) bytes

pub record IsRow (row : List Bool) : Type 0 where
  pub size : length row ≡ 4096

-- ---- rows of copy states

-- 1 for a part, or 2 and the key and the number of writes; an empty copy has no entry, and its tag 0
-- isn't read
unfoldable pub state_field : CopyState → List ℕ
state_field Empty = 0 ∷ []
state_field Part = 1 ∷ []
state_field (Whole key writes) = 2 ∷ (key_field key ++ number_field w32 writes)

abbrev pub whole_if : ℕ → List ℕ → Result (CopyState × List ℕ) FieldFault
whole_if tag bytes =
    if tag == 1 then Ok (Part, bytes)
    else (key_at bytes
    >>= λ key. number_at w32 every key.1 >>= λ writes. Ok (Whole key.0 writes.0, writes.1))

unfoldable pub state_at : List ℕ → Result (CopyState × List ℕ) FieldFault
state_at bytes = do
  tag ← byte_at (between 1 2) bytes
  whole_if tag.0 tag.1

-- whether the number is above the one before it, if there is one
abbrev pub is_above : Option ℕ → ℕ → Bool
is_above None n = true
is_above (Some before) n = nat_lt before n

unfoldable pub entry_field : ℕ × CopyState → List ℕ
entry_field e = number_field w16 e.0 ++ state_field e.1

-- a partition above the one before it, and the state of its copy
unfoldable pub entry_at : Option ℕ → ℕ → List ℕ → Result ((ℕ × CopyState) × List ℕ) FieldFault
entry_at before after bytes = do
  partition ← number_at w16 (λ p. nat_lt p partition_count && is_above before p) bytes
  state ← state_at partition.1
  Ok ((partition.0, state.0), state.1)

abbrev pub with_entry : Option ℕ → ℕ × CopyState → Option ℕ
with_entry before e = Some e.0

-- the entries behind their number
unfoldable pub state_row_field : List (ℕ × CopyState) → List ℕ
state_row_field row = number_field w16 (length row) ++ flat_map entry_field row

unfoldable pub state_row_at : List ℕ → Result (List (ℕ × CopyState) × List ℕ) FieldFault
state_row_at bytes = do
  count ← number_at w16 (between 0 4096) bytes
  items_at entry_at with_entry count.0 None count.1

abbrev pub FitsState : CopyState → Type 0
FitsState Empty = Unit {0}
FitsState Part = Unit {0}
FitsState (Whole key writes) = IsKeyField key × (writes < 2 ^ 32)

pub record IsStateRowField (row : List (ℕ × CopyState)) : Type 0 where
  pub states : IsStateRow row
  pub fit : All (λ e. FitsState e.1) row
