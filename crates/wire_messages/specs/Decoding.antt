-- What bytes are read as.
use Rattle.std.specs.Prelude.{ℕ, suc, ◌-◌, nat_lt, Bool, if◌then◌else◌, List, [], ◌∷◌, length, Option, Some, None, Result, Ok, Err}
use Rattle.std.specs.List.{list_all}
use Rattle.std.specs.Result.{result_ok}
use Rattle.wire_messages.specs.declared.message.Message.{Message}
use Rattle.wire_messages.specs.declared.fault.DecodeFault.{DecodeFault}
use Rattle.wire_messages.specs.declared.fault.DecodeFault.TheVariants as fault
use Rattle.wire_messages.specs.declared.fault.FieldFault.{FieldFault}
use Rattle.wire_messages.specs.declared.fault.FieldFault.TheVariants.{Bad, Short}
use Rattle.wire_messages.specs.Kinds.{kind_of}

-- the message, where no bytes follow it
abbrev pub alone : Message → List ℕ → Result Message DecodeFault
alone m [] = Ok m
alone m (b ∷ rest) = Err (fault.Long (length (b ∷ rest)))

-- the message that was read of so many bytes; a bad field's place is counted from the first of them
abbrev pub whole : ℕ → Result (Message × List ℕ) FieldFault → Result Message DecodeFault
whole size (Ok x) = alone x.0 x.1
whole size (Err (Bad left)) = Err (fault.BadField (size - left))
whole size (Err Short) = Err fault.Short

abbrev pub of_kind : ℕ → List ℕ → Option (List ℕ → Result (Message × List ℕ) FieldFault)
    → Result Message DecodeFault
of_kind kind fields None = Err (fault.BadKind kind)
of_kind kind fields (Some read) = whole (suc (length fields)) (read fields)

-- the message that the bytes are, or the first fault
unfoldable pub decoded : List ℕ → Result Message DecodeFault
decoded [] = Err fault.Short
decoded (kind ∷ fields) = of_kind kind fields (kind_of kind)

-- whether the numbers are bytes
abbrev pub are_bytes : List ℕ → Bool
are_bytes numbers = list_all (λ b. nat_lt b 256) numbers

-- the message that the numbers spell, if they are bytes and spell one
unfoldable pub message_of : List ℕ → Option Message
message_of numbers = if are_bytes numbers then result_ok (decoded numbers) else None
