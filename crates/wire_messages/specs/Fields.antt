-- Messages are read field by field from the left, up to the first fault.
use Rattle.std.specs.Prelude.{ℕ, zero, suc, nat_lt, Bool, List, [], ◌∷◌, length, take, drop, Option, Some, None, Result, Ok, Err, if◌then◌else◌}
use Rattle.wire_messages.specs.declared.fault.FieldFault.{FieldFault}
use Rattle.wire_messages.specs.declared.fault.FieldFault.TheVariants.{Bad, Short}

-- what stands first, and what is read of the bytes after it
infixl 10 ◌>>=◌
abbrev pub ◌>>=◌ : {A B : Type 0} → Result A FieldFault → (A → Result B FieldFault)
    → Result B FieldFault
(Ok x) >>= f = f x
(Err e) >>= f = Err e

-- the value, where it is allowed
abbrev pub if_allowed : {A : Type 0} → (A → Bool) → A → Option A
if_allowed allowed x = if allowed x then Some x else None

-- a whole field has a value that is allowed, or it is bad; `left` bytes stand from its first byte on
abbrev pub whole_field : {A : Type 0} → ℕ → Option A → List ℕ → Result (A × List ℕ) FieldFault
whole_field left (Some x) rest = Ok (x, rest)
whole_field left None rest = Err (Bad left)

-- a field of so many bytes: its value and the bytes after it
unfoldable pub field : {A : Type 0} → ℕ → (List ℕ → Option A) → List ℕ
    → Result (A × List ℕ) FieldFault
field width value_of bytes =
    if nat_lt (length bytes) width then Err Short
    else whole_field (length bytes) (value_of (take width bytes)) (drop width bytes)

-- so many items: each is read by what stood before it and by the number of those after it
unfoldable pub items_at : {A C : Type 0} → (C → ℕ → List ℕ → Result (A × List ℕ) FieldFault)
    → (C → A → C) → ℕ → C → List ℕ → Result (List A × List ℕ) FieldFault
items_at item add zero before bytes = Ok ([], bytes)
items_at item add (suc after) before bytes = do
  x ← item before after bytes
  xs ← items_at item add after (add before x.0) x.1
  Ok (x.0 ∷ xs.0, xs.1)
