-- What bytes are read as, whether they are bytes or not.
use Rattle.std.proofs.Common.{◌≡◌, ℕ, suc, ◌<◌, get_or, [], ◌∷◌, All, length, Bool, true, false, List, Option, Some, None, Err, refl, sym, ap, subst, ◌∙◌}
use Rattle.std.specs.Prelude.{if◌then◌else◌}
use Rattle.std.specs.Result.{result_ok}
use Rattle.std.proofs.lemmas.List.Elements.{All-cons, All-nil}
use Rattle.wire_messages.specs.declared.message.Message.{Message}
use Rattle.wire_messages.specs.declared.fault.DecodeFault.{DecodeFault}
use Rattle.wire_messages.specs.declared.fault.DecodeFault.TheVariants as fault
use Rattle.wire_messages.specs.Decoding.{are_bytes, decoded, message_of}
use Rattle.wire_messages.specs.Proper.{IsProper}
use Rattle.wire_messages.specs.Spelling.{spelling}
use Rattle.wire_messages.proofs.DecodingLaws.{read_back}
use Rattle.wire_codec.specs.Decoding.{Decodes}
use Rattle.world.specs.declared.delivery.Arrival.TheVariants as arrival
use Rattle.world.specs.declared.delivery.Delivery.{Delivery}
use Rattle.world.specs.Arriving.{arrival_if, arrival_of, is_short_of, read_as}

-- what is read is the message
pub read_message : (bytes : List ℕ) (m : Message) → IsProper m × (spelling m ≡ bytes) → message_of bytes ≡ Some m
read_message bytes m h = subst (λ (b : List ℕ). message_of b ≡ Some m) h.1 (read_back m h.0)

failed : (bytes : List ℕ) (f : DecodeFault) → decoded bytes ≡ Err f → message_of bytes ≡ None
unfolding message_of
failed bytes f e = go (are_bytes bytes)
  where
    go : (b : Bool) → (if b then result_ok (decoded bytes) else None) ≡ None
    go true = ap result_ok e
    go false = refl

-- where a fault that isn't one of memory is answered, no message is there
pub unread_message : (bytes : List ℕ) (f : DecodeFault) → Decodes (Err f) (decoded bytes) → (f ≡ fault.NoMemory → ⊥) → message_of bytes ≡ None
unread_message bytes fault.NoMemory e differs = absurd (differs refl)
unread_message bytes f e differs = failed bytes f e

-- ---- what arrives tells how it was read

-- a message was read of bytes that arrived whole
pub record ReadWhole (bytes : List ℕ) (how : Delivery) (m : Message) : Type 0 where
  pub whole : is_short_of (length bytes) how ≡ false
  pub read : message_of bytes ≡ Some m

-- bytes that arrived whole are no message
pub record Unreadable (bytes : List ℕ) (how : Delivery) : Type 0 where
  pub whole : is_short_of (length bytes) how ≡ false
  pub unread : message_of bytes ≡ None

read_some : (o : Option Message) (m : Message) → arrival.Message m ≡ read_as o → o ≡ Some m
read_some None m e = cc
read_some (Some n) m e = cc

read_none : (o : Option Message) → arrival.Unread ≡ read_as o → o ≡ None
read_none None e = refl
read_none (Some n) e = cc

never_short : (o : Option Message) → arrival.Short ≡ read_as o → ⊥
never_short None e = cc
never_short (Some n) e = cc

pub message_arrives : (bytes : List ℕ) (how : Delivery) (m : Message) → arrival.Message m ≡ arrival_of bytes how → ReadWhole bytes how m
message_arrives bytes how m e = go (is_short_of (length bytes) how) refl e
  where
    go : (b : Bool) → is_short_of (length bytes) how ≡ b → arrival.Message m ≡ arrival_if bytes b → ReadWhole bytes how m
    go true t e = cc
    go false t e = record { whole = t; read = read_some (message_of bytes) m e }

pub nothing_arrives : (bytes : List ℕ) (how : Delivery) → arrival.Unread ≡ arrival_of bytes how → Unreadable bytes how
nothing_arrives bytes how e = go (is_short_of (length bytes) how) refl e
  where
    go : (b : Bool) → is_short_of (length bytes) how ≡ b → arrival.Unread ≡ arrival_if bytes b → Unreadable bytes how
    go true t e = cc
    go false t e = record { whole = t; unread = read_none (message_of bytes) e }

pub short_arrives : (bytes : List ℕ) (how : Delivery) → arrival.Short ≡ arrival_of bytes how → is_short_of (length bytes) how ≡ true
short_arrives bytes how e = go (is_short_of (length bytes) how) refl e
  where
    go : (b : Bool) → is_short_of (length bytes) how ≡ b → arrival.Short ≡ arrival_if bytes b → is_short_of (length bytes) how ≡ true
    go true t e = t
    go false t e = absurd (never_short (message_of bytes) e)

pub arrives_read : (bytes : List ℕ) (how : Delivery) (m : Message) → is_short_of (length bytes) how ≡ false → message_of bytes ≡ Some m → arrival.Message m ≡ arrival_of bytes how
arrives_read bytes how m whole read = sym (ap (arrival_if bytes) whole ∙ ap read_as read)

pub arrives_unread : (bytes : List ℕ) (how : Delivery) → is_short_of (length bytes) how ≡ false → message_of bytes ≡ None → arrival.Unread ≡ arrival_of bytes how
arrives_unread bytes how whole none = sym (ap (arrival_if bytes) whole ∙ ap read_as none)

-- ---- bytes

pub all_bytes : (xs : List ℕ) → ((i : ℕ) → get_or xs i 0 < 256) → All (λ b. b < 256) xs
all_bytes [] h = All-nil (λ b. b < 256)
all_bytes (x ∷ xs) h = All-cons (λ b. b < 256) x xs (h 0) (all_bytes xs (λ i. h (suc i)))
