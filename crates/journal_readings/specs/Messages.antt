-- The messages of a journal: what was sent, and what reaches an endpoint at a line.
use Rattle.std.specs.Prelude.{ℕ, ◌==◌, nat_le, ◌&&◌, if◌then◌else◌, List, length, filter_map, Option, Some, None, option_and_then, option_map, slice_get}
use Rattle.wire_messages.specs.declared.message.Message.{Message}
use Rattle.wire_messages.specs.Decoding.{message_of}
use Rattle.journal_lines.specs.declared.line.Line.{Line}
use Rattle.journal_lines.specs.declared.line.Line.TheVariants as line

-- a message under way: from an endpoint to an endpoint, where 0 is the client, and its bytes
pub record Posting : Type 0 where
  pub from : ℕ
  pub to : ℕ
  pub bytes : List ℕ

-- a message that is at its end
pub record Arrival : Type 0 where
  pub from : ℕ
  pub to : ℕ
  pub message : Message

-- ---- what was sent

abbrev pub posting_of : ℕ → Line → Option Posting
posting_of i (line.Sent j a b bytes) =
    if j == i then Some (record { from = a; to = b; bytes = bytes }) else None
posting_of i _ = None

-- the message of that number, as it was sent
unfoldable pub posted : ℕ → List Line → Option Posting
posted i lines = slice_get (filter_map (posting_of i) lines) 0

-- the message that the line sends from one endpoint to the other; bytes that spell none are none
abbrev pub sent_message : ℕ → ℕ → Line → Option Message
sent_message a b (line.Sent i from to bytes) =
    if (from == a) && (to == b) then message_of bytes else None
sent_message a b _ = None

-- the messages that were sent from one endpoint to the other, in their order
unfoldable pub sent_between : ℕ → ℕ → List Line → List Message
sent_between a b lines = filter_map (sent_message a b) lines

-- ---- what reaches an endpoint

abbrev pub arrived : ℕ → Posting → Option Arrival
arrived b posting =
    option_map (λ m. record { from = posting.from; to = b; message = m }) (message_of posting.bytes)

-- it arrives whole where at least its length is left of it
abbrev pub arrived_cut : ℕ → ℕ → Posting → Option Arrival
arrived_cut b size posting = if nat_le (length posting.bytes) size then arrived b posting else None

-- the message that reaches an endpoint at the line, of those that were sent before: it comes from the sender of
-- its own line and reaches the endpoint that this line names
unfoldable pub arrival : List Line → Line → Option Arrival
arrival before (line.Deliver i a b) = option_and_then (arrived b) (posted i before)
arrival before (line.Repeat i a b) = option_and_then (arrived b) (posted i before)
arrival before (line.Cut i a b size) = option_and_then (arrived_cut b size) (posted i before)
arrival before _ = None

abbrev pub message_between : ℕ → ℕ → Arrival → Option Message
message_between a b x = if (x.from == a) && (x.to == b) then Some x.message else None

-- the message from the one endpoint that reaches the other at the line
abbrev pub arrival_between : ℕ → ℕ → List Line → Line → Option Message
arrival_between a b before l = option_and_then (message_between a b) (arrival before l)
