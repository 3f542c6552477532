-- What the marks of a node's step make of a world.
use Rattle.std.specs.Prelude.{◌≡◌, ℕ, ◌+◌, ◌≤◌, List, [], ◌∷◌, length, Option, Some, None, All, if◌then◌else◌}
use Rattle.cluster_types.specs.Partitions.{partition_count}
use Rattle.wire_messages.specs.declared.message.Message.{Message}
use Rattle.wire_messages.specs.Decoding.{message_of}
use Rattle.wire_messages.specs.Spelling.{spelling}
use Rattle.journal_lines.specs.declared.line.Line.{Line}
use Rattle.journal_lines.specs.declared.line.Line.TheVariants as line
use Rattle.node_rules.specs.Facts.{Facts}
use Rattle.request_rules.specs.Requests.{Requests}
use Rattle.cluster_rules.specs.declared.event.Event.{Event}
use Rattle.cluster_rules.specs.DueEvents.{due_of}
use Rattle.cluster_rules.specs.Marks.{node_of_line, after_all}
use Rattle.journal_readings.specs.Messages.{Posting}
use Rattle.cluster_rules.specs.Network.{Network, posting, landed, has_place}
use Rattle.cluster_rules.specs.Steps.{Step, marks_of}
use Rattle.cluster_rules.specs.World.{World}

-- there is none, or it is that node
abbrev pub IsNoOther : ℕ → Option ℕ → Type 0
IsNoOther n None = Unit {0}
IsNoOther n (Some m) = m ≡ n

-- the line is one of that node, or adds to requests alone, if to anything
abbrev pub IsOf : ℕ → Line → Type 0
IsOf n (line.Clock m time) = ⊥
IsOf n (line.Groups groups) = ⊥
IsOf n (line.Deliver i a b) = ⊥
IsOf n (line.Repeat i a b) = ⊥
IsOf n (line.Cut i a b size) = ⊥
IsOf n (line.Sent i a b bytes) = ⊥
IsOf n (line.Full i) = ⊥
IsOf n l = IsNoOther n (node_of_line l)

abbrev pub AreOf : ℕ → List Line → Type 0
AreOf n [] = Unit {0}
AreOf n (l ∷ ls) = IsOf n l × AreOf n ls

-- each message is read from its spelling
abbrev pub AreRead : List (ℕ × Message) → Type 0
AreRead [] = Unit {0}
AreRead (m ∷ ms) = (message_of (spelling m.1) ≡ Some m.1) × AreRead ms

-- no number in flight is past the last one that was sent
pub record IsNumbered (net : Network) : Type 0 where
  pub upto : All (λ j. j ≤ length net.sent) net.flying

-- one world and the next, where that node's facts, the network and the requests are other ones, and all else is the same
pub record Moves (n : ℕ) (new : Facts) (net : Network) (kept : Requests) (w v : World) : Type 0 where
  pub here : v.facts n ≡ new
  pub elsewhere : (m : ℕ) → (n ≡ m → ⊥) → v.facts m ≡ w.facts m
  pub network : v.network ≡ net
  pub requests : v.requests ≡ kept
  pub nodes : v.nodes ≡ w.nodes
  pub clocks : v.clocks ≡ w.clocks
  pub tables : v.tables ≡ w.tables
  pub want : v.want ≡ w.want
  pub asker : v.asker ≡ w.asker

-- ---- what is sent

-- the network after a message was sent, which is in flight where it had a place
abbrev pub sent_in : Network → Posting → Network
sent_in net p =
    if has_place (length net.flying)
    then posting net (length net.sent + 1) p
    else landed (posting net (length net.sent + 1) p) (length net.sent + 1)

-- the network after an endpoint sent these
abbrev pub all_sent_in : Network → ℕ → List (ℕ × Message) → Network
all_sent_in net from [] = net
all_sent_in net from (m ∷ ms) =
    all_sent_in (sent_in net (record { from = from; to = m.0; bytes = spelling m.1 })) from ms

-- ---- a step

-- the event with the lines that are due of it
abbrev pub due_step : World → Event → Step
due_step w e = record { event = e; lines = due_of partition_count w e }

-- the world after that step
abbrev pub after_step : World → Event → World
after_step w e = after_all w (marks_of (due_step w e))
