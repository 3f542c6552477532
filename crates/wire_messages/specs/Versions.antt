-- Digests, values, versions and records as fields.
use Rattle.std.specs.Prelude.{◌≡◌, ℕ, ◌<◌, ◌≤◌, ◌^◌, ◌==◌, Bool, true, if◌then◌else◌, List, [], ◌∷◌, ◌++◌, length, flat_map, Option, Some, None, Result, Ok, All, AllPairs}
use Rattle.std.specs.declared.cmp.Ordering.TheVariants.{Less}
use Rattle.std.specs.Ordering.{nat_cmp, is_lt}
use Rattle.std.specs.Cmp.Lexicographic.{slice_cmp}
use Rattle.std.specs.Int.{w32, w64}
use Rattle.conflict_order.specs.declared.version.Version.{Version}
use Rattle.conflict_order.specs.Contents.{Record}
use Rattle.conflict_order.specs.declared.version.Body.{Body}
use Rattle.conflict_order.specs.declared.version.Body.TheVariants.{Tombstone, Value}
pub use Rattle.cluster_types.specs.Ranges.{AreBytes, IsDigest, IsValue}
use Rattle.wire_messages.specs.declared.fault.FieldFault.{FieldFault}
use Rattle.wire_messages.specs.Fields.{◌>>=◌, if_allowed, field, items_at}
use Rattle.wire_messages.specs.Numbers.{every, between, positive, number_field, number_at, byte_field, byte_at}

-- so many bytes of any values
unfoldable pub bytes_at : ℕ → List ℕ → Result (List ℕ × List ℕ) FieldFault
bytes_at count bytes = field count (λ b. Some b) bytes

-- ---- digests

unfoldable pub digest_at : List ℕ → Result (List ℕ × List ℕ) FieldFault
digest_at bytes = bytes_at 20 bytes

-- whether the digest is above the one before it, if there is one
abbrev pub is_above : Option (List ℕ) → List ℕ → Bool
is_above None digest = true
is_above (Some before) digest = is_lt (slice_cmp nat_cmp before digest)

unfoldable pub digest_above_at : Option (List ℕ) → List ℕ → Result (List ℕ × List ℕ) FieldFault
digest_above_at before bytes = field 20 (if_allowed (is_above before)) bytes

-- a digest or none: 0, or 1 and the digest
unfoldable pub option_digest_field : Option (List ℕ) → List ℕ
option_digest_field None = 0 ∷ []
option_digest_field (Some digest) = 1 ∷ digest

abbrev pub digest_if : ℕ → List ℕ → Result (Option (List ℕ) × List ℕ) FieldFault
digest_if tag bytes =
    if tag == 0 then Ok (None, bytes)
    else (digest_at bytes >>= λ digest. Ok (Some digest.0, digest.1))

unfoldable pub option_digest_at : List ℕ → Result (Option (List ℕ) × List ℕ) FieldFault
option_digest_at bytes = do
  tag ← byte_at (between 0 1) bytes
  digest_if tag.0 tag.1

abbrev pub IsOptionDigest : Option (List ℕ) → Type 0
IsOptionDigest None = Unit {0}
IsOptionDigest (Some digest) = IsDigest digest

-- ---- values and versions

-- the bytes of a value behind their number
unfoldable pub value_field : List ℕ → List ℕ
value_field bytes = byte_field (length bytes) ++ bytes

unfoldable pub value_at : List ℕ → Result (List ℕ × List ℕ) FieldFault
value_at bytes = do
  count ← byte_at (between 0 128) bytes
  bytes_at count.0 count.1

-- 0 for a tombstone, or 1 and the value
unfoldable pub body_field : Body → List ℕ
body_field Tombstone = 0 ∷ []
body_field (Value bytes) = 1 ∷ value_field bytes

abbrev pub value_if : ℕ → List ℕ → Result (Body × List ℕ) FieldFault
value_if tag bytes =
    if tag == 0 then Ok (Tombstone, bytes)
    else (value_at bytes >>= λ value. Ok (Value value.0, value.1))

unfoldable pub body_at : List ℕ → Result (Body × List ℕ) FieldFault
body_at bytes = do
  tag ← byte_at (between 0 1) bytes
  value_if tag.0 tag.1

abbrev pub IsBody : Body → Type 0
IsBody Tombstone = Unit {0}
IsBody (Value bytes) = IsValue bytes

unfoldable pub version_field : Version → List ℕ
version_field v = number_field w64 v.lut ++ (number_field w32 v.generation ++ body_field v.body)

unfoldable pub version_at : List ℕ → Result (Version × List ℕ) FieldFault
version_at bytes = do
  lut ← number_at w64 every bytes
  generation ← number_at w32 positive lut.1
  body ← body_at generation.1
  Ok (record { lut = lut.0; generation = generation.0; body = body.0 }, body.1)

pub record IsVersion (v : Version) : Type 0 where
  pub lut : v.lut < 2 ^ 64
  pub written : 0 < v.generation
  pub generation : v.generation < 2 ^ 32
  pub body : IsBody v.body

-- a version or none: 0, or 1 and the version
unfoldable pub option_version_field : Option Version → List ℕ
option_version_field None = 0 ∷ []
option_version_field (Some v) = 1 ∷ version_field v

abbrev pub version_if : ℕ → List ℕ → Result (Option Version × List ℕ) FieldFault
version_if tag bytes =
    if tag == 0 then Ok (None, bytes)
    else (version_at bytes >>= λ v. Ok (Some v.0, v.1))

unfoldable pub option_version_at : List ℕ → Result (Option Version × List ℕ) FieldFault
option_version_at bytes = do
  tag ← byte_at (between 0 1) bytes
  version_if tag.0 tag.1

abbrev pub IsOptionVersion : Option Version → Type 0
IsOptionVersion None = Unit {0}
IsOptionVersion (Some v) = IsVersion v

-- ---- records

unfoldable pub record_field : Record → List ℕ
record_field r = r.0 ++ version_field r.1

-- a record whose digest is above the one before it
unfoldable pub record_at : Option (List ℕ) → ℕ → List ℕ
    → Result (Record × List ℕ) FieldFault
record_at before after bytes = do
  digest ← digest_above_at before bytes
  version ← version_at digest.1
  Ok ((digest.0, version.0), version.1)

abbrev pub with_record : Option (List ℕ) → Record → Option (List ℕ)
with_record before r = Some r.0

-- records behind their number
unfoldable pub records_field : List Record → List ℕ
records_field records = byte_field (length records) ++ flat_map record_field records

-- least to 64 records
unfoldable pub records_at : ℕ → List ℕ → Result (List Record × List ℕ) FieldFault
records_at least bytes = do
  count ← byte_at (between least 64) bytes
  items_at record_at with_record count.0 None count.1

pub record IsRecord (r : Record) : Type 0 where
  pub digest : IsDigest r.0
  pub version : IsVersion r.1

pub record AreRecords (least : ℕ) (records : List Record) : Type 0 where
  pub some : least ≤ length records
  pub limit : length records ≤ 64
  pub rising : AllPairs (λ a b. slice_cmp nat_cmp a.0 b.0 ≡ Less) records
  pub each : All IsRecord records
