-- What happens to a world, mark by mark: each step begins with its event, and then come its lines.
use Rattle.std.specs.Prelude.{ℕ, ◌==◌, Bool, true, false, List, [], ◌∷◌, ◌++◌, ◌||◌, filter_map, Option, Some, None, option_and_then, is_some, if◌then◌else◌}
use Rattle.conflict_order.specs.declared.want.Want.{Want}
use Rattle.conflict_order.specs.declared.want.Want.TheVariants as want
use Rattle.wire_messages.specs.declared.message.Message.{Message}
use Rattle.wire_messages.specs.declared.message.Message.TheVariants as message
use Rattle.wire_messages.specs.Decoding.{message_of}
use Rattle.journal_lines.specs.declared.line.Line.{Line}
use Rattle.journal_lines.specs.declared.line.Line.TheVariants as line
use Rattle.node_rules.specs.Notes.{note, reached, sent}
use Rattle.node_rules.specs.Messages.{client}
use Rattle.request_rules.specs.declared.taken.Asker.{Asker}
use Rattle.request_rules.specs.LineNotes.{counts_for_requests, requests_noted}
use Rattle.request_rules.specs.Replies.{asker_of, want_in_message}
use Rattle.cluster_rules.specs.declared.event.Event.{Event}
use Rattle.cluster_rules.specs.declared.event.Event.TheVariants as event
use Rattle.journal_readings.specs.Messages.{Posting, Arrival, arrived, arrived_cut}
use Rattle.cluster_rules.specs.Network.{Network, posting_at, landed, posting}
use Rattle.cluster_rules.specs.World.{World, changed_at, with_facts}

pub data Mark : Type 0 where
  -- a step of this event begins
  Begins : (event : Event) → Mark
  -- the line is written
  Writes : (line : Line) → Mark

-- ---- a step begins

-- what the message of that number brings to the end that it was sent to, if it is a message
abbrev pub arrival_under : Network → ℕ → Option Arrival
arrival_under net i = option_and_then (λ p. arrived p.to p) (posting_at net i)

-- what the event brings, also where it turns out to be blocked or comes short; none of an event that delivers nothing
abbrev pub arrival_in : Network → Event → Option Arrival
arrival_in net (event.Deliver i) = arrival_under net i
arrival_in net (event.Repeat i) = arrival_under net i
arrival_in net (event.Cut i size) = arrival_under net i
arrival_in net _ = None

-- what a request wants, which no line tells of a put: that of the event, or of the message that the event brings
abbrev pub want_in : World → Event → Option Want
want_in w (event.Put n d v) = Some (want.Put v)
want_in w (event.Get n d) = Some want.Get
want_in w (event.Del n d) = Some want.Del
want_in w (event.ClientPut d v) = Some (want.Put v)
want_in w (event.ClientGet d) = Some want.Get
want_in w (event.ClientDel d) = Some want.Del
want_in w (event.ProxyPut n d v) = Some (want.Put v)
want_in w (event.ProxyGet n d) = Some want.Get
want_in w (event.ProxyDel n d) = Some want.Del
want_in w (event.CallPut d v) = Some (want.Put v)
want_in w (event.CallGet d) = Some want.Get
want_in w (event.CallDel d) = Some want.Del
want_in w e = option_and_then (λ x. want_in_message x.message) (arrival_in w.network e)

-- who asks by the message that the event brings, if it is a request
abbrev pub asker_in : World → Event → Option Asker
asker_in w e = option_and_then (λ x. asker_of x.from x.message) (arrival_in w.network e)

-- a message that is delivered, lost or cut is no longer in flight, also where it turns out to be blocked; one
-- that is repeated stays
abbrev pub taken_by : Network → Event → Network
taken_by net (event.Deliver i) = landed net i
taken_by net (event.Lose i) = landed net i
taken_by net (event.Cut i size) = landed net i
taken_by net _ = net

-- the event's step is in progress, with the want and the asker of its request in hand
abbrev pub event_begun : World → Event → World
event_begun w e = record w {
  network = taken_by w.network e;
  event = Some e;
  want = want_in w e;
  asker = asker_in w e;
}

-- ---- a line of a node

-- the node in whose facts the line counts, if any
abbrev pub node_of_line : Line → Option ℕ
node_of_line (line.Tick n) = Some n
node_of_line (line.Stop n) = Some n
node_of_line (line.Start n) = Some n
node_of_line (line.Quiesce n) = Some n
node_of_line (line.Unquiesce n) = Some n
node_of_line (line.Promise n k) = Some n
node_of_line (line.Enter n k ms) = Some n
node_of_line (line.Exchanged n k) = Some n
node_of_line (line.Opened n k t d a) = Some n
node_of_line (line.Value n k t d v) = Some n
node_of_line (line.Apply n k t d v) = Some n
node_of_line (line.Done n k t) = Some n
node_of_line (line.Aborted n k t) = Some n
node_of_line (line.Doubt n k t) = Some n
node_of_line (line.Merge n k d v) = Some n
node_of_line (line.Handed n k p) = Some n
node_of_line (line.Settled n k p) = Some n
node_of_line (line.Learn n k p) = Some n
node_of_line (line.Drop n k p) = Some n
node_of_line _ = None

-- the line counts in that node's facts
abbrev pub by_node : World → ℕ → Line → World
by_node w n l = with_facts w n (note w.want (w.facts n) l)

-- the line counts in the facts of the node, if there is one
abbrev pub by_node_of : World → Option ℕ → Line → World
by_node_of w None l = w
by_node_of w (Some n) l = by_node w n l

-- ---- a message arrives

-- only a table counts at the client
abbrev pub came_to_client : World → Message → World
came_to_client w (message.MapTable t) = record w { tables = w.tables ++ t ∷ [] }
came_to_client w _ = w

-- what reaches a node counts in its facts
abbrev pub came_to_node : World → Arrival → World
came_to_node w x = with_facts w x.to (reached (w.facts x.to) x.from x.message)

-- what arrives, if anything, at the client or at a node: bytes that are no message reach nobody
abbrev pub came : World → Option Arrival → World
came w None = w
came w (Some x) =
    if x.to == client then came_to_client w x.message else came_to_node w x

-- ---- a message is sent

-- the sender's facts have the message, if it is one
abbrev pub sent_by : World → ℕ → ℕ → Option Message → World
sent_by w a b None = w
sent_by w a b (Some m) = with_facts w a (sent (w.facts a) b m)

-- a message is sent under this number
abbrev pub posted_by : World → ℕ → Posting → World
posted_by w i p =
    sent_by (record w { network = posting w.network i p }) p.from p.to (message_of p.bytes)

-- ---- requests

-- the world, where the test says whether the line counts for its requests
abbrev pub with_requests_if : World → Line → Bool → World
with_requests_if w l false = w
with_requests_if w l true = record w { requests = requests_noted w.asker w.want w.requests l }

-- ---- a line

-- what a line adds. One of another word that is no node's adds to the requests alone, if to anything
abbrev pub after_line : World → Line → World
after_line w (line.Clock n time) = record w { clocks = changed_at w.clocks n time }
after_line w (line.Groups groups) = record w { network = record w.network { groups = groups } }
after_line w (line.Deliver i a b) = came w (option_and_then (arrived b) (posting_at w.network i))
after_line w (line.Repeat i a b) = came w (option_and_then (arrived b) (posting_at w.network i))
after_line w (line.Cut i a b size) =
    came w (option_and_then (arrived_cut b size) (posting_at w.network i))
after_line w (line.Sent i a b bytes) = posted_by w i (record { from = a; to = b; bytes = bytes })
after_line w (line.Full i) = record w { network = landed w.network i }
after_line w l = with_requests_if (by_node_of w (node_of_line l) l) l (counts_for_requests l)

-- whether a line of that word may add something
abbrev pub adds : Line → Bool
adds (line.Clock n time) = true
adds (line.Groups groups) = true
adds (line.Deliver i a b) = true
adds (line.Repeat i a b) = true
adds (line.Cut i a b size) = true
adds (line.Sent i a b bytes) = true
adds (line.Full i) = true
adds l = is_some (node_of_line l) || counts_for_requests l

-- ---- marks

-- what a mark adds
abbrev pub after : World → Mark → World
after w (Begins e) = event_begun w e
after w (Writes l) = after_line w l

-- what marks add, one after another
abbrev pub after_all : World → List Mark → World
after_all w [] = w
after_all w (m ∷ ms) = after_all (after w m) ms

abbrev pub line_in : Mark → Option Line
line_in (Begins e) = None
line_in (Writes l) = Some l

-- the lines among marks, in their order
abbrev pub lines_among : List Mark → List Line
lines_among ms = filter_map line_in ms
