-- Requests that come as messages: how a node takes one up, and what it replies.
use Rattle.std.specs.Prelude.{◌≡◌, ℕ, ◌==◌, Bool, false, List, Option, Some, None, option_and_then, slice_get, take}
use Rattle.conflict_order.specs.declared.want.Action.{Action}
use Rattle.cluster_types.specs.declared.cluster_key.ClusterKey.{ClusterKey}
use Rattle.wire_messages.specs.declared.message.Message.{Message}
use Rattle.wire_messages.specs.declared.reply.ReplyBody.{ReplyBody}
use Rattle.wire_messages.specs.declared.reply.ReplyBody.TheVariants as reply
use Rattle.journal_lines.specs.declared.refusal.Refusal.{Refusal}
use Rattle.journal_lines.specs.declared.refusal.Refusal.TheVariants as refusal
use Rattle.journal_lines.specs.declared.line.Line.{Line}
use Rattle.journal_lines.specs.declared.line.Line.TheVariants as line
use Rattle.journal_readings.specs.Lines.{lines_before}
use Rattle.journal_readings.specs.Messages.{Arrival, arrival, sent_message}

-- ---- messages at a place

-- what reaches an endpoint at the line of that place
abbrev pub arrival_at : List Line → ℕ → Option Arrival
arrival_at j i = option_and_then (arrival (take i j)) (slice_get j i)

-- the message that the line of that place sends from one endpoint to the other
abbrev pub sent_at : List Line → ℕ → ℕ → ℕ → Option Message
sent_at j i a b = option_and_then (sent_message a b) (slice_get j i)

-- whether the line sends the message of that number
abbrev pub is_sending : ℕ → Line → Bool
is_sending i (line.Sent j a b bytes) = j == i
is_sending i _ = false

-- the number of the message that the line brings
abbrev pub brought_number : Line → Option ℕ
brought_number (line.Deliver i a b) = Some i
brought_number (line.Repeat i a b) = Some i
brought_number (line.Cut i a b size) = Some i
brought_number _ = None

-- the lines before the one that sent the message which the line of that place brings
abbrev pub before_sending : List Line → ℕ → Option (List Line)
before_sending j i =
    option_and_then (λ number. lines_before (is_sending number) (take i j))
    (option_and_then brought_number (slice_get j i))

-- ---- how a request is taken up

-- a node that takes a request up opens a transaction of that number, or refuses the request
pub data Uptake : Type 0 where
  Opens : (transaction : ℕ) → Uptake
  Refuses : (cause : Refusal) → Uptake

-- the line that says how a node in that view takes up a request for the action on the record
abbrev pub uptake_line : ℕ → ClusterKey → List ℕ → Action → Uptake → Line
uptake_line n k d a (Opens t) = line.Opened n k t d a
uptake_line n k d a (Refuses c) = line.Refused n d c

-- ---- what is replied

-- why the reply refuses; nothing where it is a value or done
abbrev pub cause_of : ReplyBody → Option Refusal
cause_of reply.Nothing = None
cause_of (reply.Found v) = None
cause_of reply.Done = None
cause_of (reply.Exchanging m) = Some (refusal.Exchanging m)
cause_of (reply.NotMaster a) = Some (refusal.NotMaster a)
cause_of (reply.Busy t) = Some (refusal.Busy t)
cause_of reply.NoView = Some refusal.NoView

-- the line that ends the node's transaction on the record with that reply: a read with what it found, a write as
-- done; a refusal ends none
abbrev pub end_line : ℕ → ClusterKey → ℕ → List ℕ → ReplyBody → Option Line
end_line n k t d reply.Nothing = Some (line.Value n k t d None)
end_line n k t d (reply.Found v) = Some (line.Value n k t d (Some v))
end_line n k t d reply.Done = Some (line.Done n k t)
end_line n k t d _ = None

-- one of the lines ends the node's transaction on the record with that reply
pub record Ended (lines : List Line) (n : ℕ) (k : ClusterKey) (t : ℕ) (d : List ℕ) (b : ReplyBody)
    : Type 0 where
  pub place : ℕ
  pub end : Line
  pub stands : slice_get lines place ≡ Some end
  pub ends : end_line n k t d b ≡ Some end

-- the lines answer a request on the record that the node took up so: with the end of its transaction, or with the
-- cause for which it was refused
abbrev pub Answers : List Line → ℕ → ClusterKey → List ℕ → Uptake → ReplyBody → Type 0
Answers lines n k d (Opens t) b = Ended lines n k t d b
Answers lines n k d (Refuses c) b = cause_of b ≡ Some c
