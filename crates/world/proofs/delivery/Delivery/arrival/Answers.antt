use Rattle.std.proofs.Common.{List, ℕ, length, sym, ap, ◌∙◌}
use Rattle.wire_messages.specs.Decoding.{message_of}
use Rattle.world.proofs.DeliveryLaws.{arrives_read, arrives_unread, read_message, unread_message}
use Rattle.world.specs.Arriving.{is_short_of}
use Rattle.world.proofs.delivery.Delivery.arrival.Goals as goal

pub returns-in-Ok : goal.returns-in-Ok
returns-in-Ok c =
    arrives_read c.args.flying.now.bytes c.args.self c.in-Ok.message
    (ap (λ (b : List ℕ). is_short_of (length b) c.args.self) (sym c.as_slice-bytes.ensures) ∙ sym c.is_short_of.ensures ∙ c.if-is_short_of.false)
    (ap message_of (sym c.as_slice-bytes.ensures) ∙ read_message c.as_slice-bytes.result.now c.in-Ok.message c.in-Ok.ensures.found)

pub returns-in_default : goal.returns-in_default
returns-in_default c =
    arrives_unread c.args.flying.now.bytes c.args.self
    (ap (λ (b : List ℕ). is_short_of (length b) c.args.self) (sym c.as_slice-bytes.ensures) ∙ sym c.is_short_of.ensures ∙ c.if-is_short_of.false)
    (ap message_of (sym c.as_slice-bytes.ensures) ∙ unread_message c.as_slice-bytes.result.now c.in-Err.fault c.in-Err.ensures.exact c.in_default.not-NoMemory)
