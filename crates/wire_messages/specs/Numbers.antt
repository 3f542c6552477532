-- Numbers, bytes and flags as fields.
use Rattle.std.specs.Prelude.{ℕ, ◌<◌, ◌^◌, nat_lt, nat_le, ◌==◌, ◌&&◌, Bool, true, if◌then◌else◌, List, [], ◌∷◌, slice_index, Result, Ok}
use Rattle.std.specs.Int.{Width, byte_len, to_be_bytes, from_be_bytes}
use Rattle.wire_messages.specs.declared.fault.FieldFault.{FieldFault}
use Rattle.wire_messages.specs.Fields.{◌>>=◌, if_allowed, field}

-- every number is allowed
abbrev pub every : ℕ → Bool
every n = true

-- every number but 0 is allowed
abbrev pub positive : ℕ → Bool
positive n = nat_lt 0 n

-- the numbers between the two are allowed, and these
abbrev pub between : ℕ → ℕ → ℕ → Bool
between least most n = nat_le least n && nat_le n most

-- a number, the high byte first
unfoldable pub number_field : Width → ℕ → List ℕ
number_field w n = to_be_bytes w n

unfoldable pub number_at : Width → (ℕ → Bool) → List ℕ → Result (ℕ × List ℕ) FieldFault
number_at w allowed bytes = field (byte_len w) (λ b. if_allowed allowed (from_be_bytes w b)) bytes

-- one byte, as a count, a tag or a length
unfoldable pub byte_field : ℕ → List ℕ
byte_field n = n ∷ []

unfoldable pub byte_at : (ℕ → Bool) → List ℕ → Result (ℕ × List ℕ) FieldFault
byte_at allowed bytes = field 1 (λ b. if_allowed allowed (slice_index b 0)) bytes

-- 1 where it holds, and otherwise 0
unfoldable pub flag_field : Bool → List ℕ
flag_field holds = (if holds then 1 else 0) ∷ []

unfoldable pub flag_at : List ℕ → Result (Bool × List ℕ) FieldFault
flag_at bytes = do
  n ← byte_at (between 0 1) bytes
  Ok (n.0 == 1, n.1)

-- a number of a transaction, a write, a batch, a request or a scan
pub record IsNumber (n : ℕ) : Type 0 where
  pub positive : 0 < n
  pub fits : n < 2 ^ 32
