-- What requests want, and the replies and refusals, as fields.
use Rattle.std.specs.Prelude.{◌≡◌, ℕ, ◌==◌, ◌&&◌, ◌||◌, nat_lt, Bool, true, if◌then◌else◌, List, [], ◌∷◌, Result, Ok}
use Rattle.std.specs.Int.{w32}
use Rattle.conflict_order.specs.declared.want.Want.{Want}
use Rattle.conflict_order.specs.declared.want.Want.TheVariants as want
use Rattle.wire_messages.specs.declared.fault.FieldFault.{FieldFault}
use Rattle.wire_messages.specs.declared.reply.ReplyBody.{ReplyBody}
use Rattle.wire_messages.specs.declared.reply.ReplyBody.TheVariants as reply
use Rattle.wire_messages.specs.declared.scan.ScanRefusal.{ScanRefusal}
use Rattle.wire_messages.specs.declared.scan.ScanRefusal.TheVariants as refusal
use Rattle.wire_messages.specs.Fields.{◌>>=◌}
use Rattle.wire_messages.specs.Numbers.{between, positive, number_field, number_at, byte_at, IsNumber}
use Rattle.wire_messages.specs.Nodes.{id_field, id_at, IsId}
use Rattle.wire_messages.specs.Versions.{value_field, value_at, IsValue, version_field, version_at, IsVersion}

-- ---- wants

-- 0 get, 1 put, 2 del; a put has its value behind it
unfoldable pub want_field : Want → List ℕ
want_field want.Get = 0 ∷ []
want_field (want.Put value) = 1 ∷ value_field value
want_field want.Del = 2 ∷ []

abbrev pub want_of : ℕ → List ℕ → Result (Want × List ℕ) FieldFault
want_of tag bytes =
    if tag == 0 then Ok (want.Get, bytes)
    else if tag == 1 then (value_at bytes >>= λ value. Ok (want.Put value.0, value.1))
    else Ok (want.Del, bytes)

unfoldable pub want_at : List ℕ → Result (Want × List ℕ) FieldFault
want_at bytes = do
  tag ← byte_at (between 0 2) bytes
  want_of tag.0 tag.1

abbrev pub IsWant : Want → Type 0
IsWant want.Get = Unit {0}
IsWant (want.Put value) = IsValue value
IsWant want.Del = Unit {0}

-- ---- replies

-- 0 no version, 1 a version, 2 done, 3 a row is missing, 4 another node acts, 5 a transaction is
-- open, 6 no view
unfoldable pub reply_field : ReplyBody → List ℕ
reply_field reply.Nothing = 0 ∷ []
reply_field (reply.Found v) = 1 ∷ version_field v
reply_field reply.Done = 2 ∷ []
reply_field (reply.Exchanging id) = 3 ∷ id_field id
reply_field (reply.NotMaster id) = 4 ∷ id_field id
reply_field (reply.Busy transaction) = 5 ∷ number_field w32 transaction
reply_field reply.NoView = 6 ∷ []

abbrev pub reply_of : ℕ → List ℕ → Result (ReplyBody × List ℕ) FieldFault
reply_of tag bytes =
    if tag == 0 then Ok (reply.Nothing, bytes)
    else if tag == 1 then (version_at bytes >>= λ v. Ok (reply.Found v.0, v.1))
    else if tag == 2 then Ok (reply.Done, bytes)
    else if tag == 3 then (id_at bytes >>= λ id. Ok (reply.Exchanging id.0, id.1))
    else if tag == 4 then (id_at bytes >>= λ id. Ok (reply.NotMaster id.0, id.1))
    else if tag == 5 then (number_at w32 positive bytes >>= λ t. Ok (reply.Busy t.0, t.1))
    else Ok (reply.NoView, bytes)

-- whether the tag is allowed, where it is known whether the reply may be that there is no view
abbrev pub is_reply_tag : Bool → ℕ → Bool
is_reply_tag no_view tag = nat_lt tag 6 || (no_view && (tag == 6))

unfoldable pub reply_at : Bool → List ℕ → Result (ReplyBody × List ℕ) FieldFault
reply_at no_view bytes = do
  tag ← byte_at (is_reply_tag no_view) bytes
  reply_of tag.0 tag.1

abbrev pub IsReplyBody : Bool → ReplyBody → Type 0
IsReplyBody no_view reply.Nothing = Unit {0}
IsReplyBody no_view (reply.Found v) = IsVersion v
IsReplyBody no_view reply.Done = Unit {0}
IsReplyBody no_view (reply.Exchanging id) = IsId id
IsReplyBody no_view (reply.NotMaster id) = IsId id
IsReplyBody no_view (reply.Busy transaction) = IsNumber transaction
IsReplyBody no_view reply.NoView = no_view ≡ true

-- ---- refusals of scans

-- 1 no view, 2 a row is missing, 3 another node acts, 4 not settled, 5 a transaction is open
unfoldable pub refusal_field : ScanRefusal → List ℕ
refusal_field refusal.NoView = 1 ∷ []
refusal_field (refusal.Exchanging id) = 2 ∷ id_field id
refusal_field (refusal.NotMaster id) = 3 ∷ id_field id
refusal_field refusal.NotSettled = 4 ∷ []
refusal_field (refusal.Open transaction) = 5 ∷ number_field w32 transaction

abbrev pub refusal_of : ℕ → List ℕ → Result (ScanRefusal × List ℕ) FieldFault
refusal_of tag bytes =
    if tag == 1 then Ok (refusal.NoView, bytes)
    else if tag == 2 then (id_at bytes >>= λ id. Ok (refusal.Exchanging id.0, id.1))
    else if tag == 3 then (id_at bytes >>= λ id. Ok (refusal.NotMaster id.0, id.1))
    else if tag == 4 then Ok (refusal.NotSettled, bytes)
    else (number_at w32 positive bytes >>= λ t. Ok (refusal.Open t.0, t.1))

unfoldable pub refusal_at : List ℕ → Result (ScanRefusal × List ℕ) FieldFault
refusal_at bytes = do
  tag ← byte_at (between 1 5) bytes
  refusal_of tag.0 tag.1

abbrev pub IsRefusal : ScanRefusal → Type 0
IsRefusal refusal.NoView = Unit {0}
IsRefusal (refusal.Exchanging id) = IsId id
IsRefusal (refusal.NotMaster id) = IsId id
IsRefusal refusal.NotSettled = Unit {0}
IsRefusal (refusal.Open transaction) = IsNumber transaction
