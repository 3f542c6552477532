-- What is due of events where requests come and go as messages: a node passes a request on, the client's requests and
-- scans are messages, and each step of a node brings the replies that its lines owe. The number of partitions is an
-- argument of what a tick and a Progress walk over.
use Rattle.std.specs.Prelude.{ℕ, ◌==◌, nat_lt, List, [], ◌∷◌, ◌++◌, length, Option, Some, None, if◌then◌else◌}
use Rattle.conflict_order.specs.declared.want.Want.{Want}
use Rattle.conflict_order.specs.declared.want.Want.TheVariants as want
use Rattle.cluster_types.specs.Endpoints.{client}
use Rattle.wire_messages.specs.declared.message.Message.{Message}
use Rattle.wire_messages.specs.declared.message.Message.TheVariants as message
use Rattle.wire_messages.specs.Decoding.{message_of}
use Rattle.journal_lines.specs.declared.line.Line.{Line}
use Rattle.journal_lines.specs.declared.line.Line.TheVariants as line
use Rattle.journal_readings.specs.Messages.{Posting}
use Rattle.node_rules.specs.Effects.{Effects}
use Rattle.node_rules.specs.Requests.{due_stop}
use Rattle.node_rules.specs.Tick.{tick_of}
use Rattle.request_rules.specs.declared.taken.Asker.{Asker}
use Rattle.request_rules.specs.Calls.{calling, calling_again, on_reply}
use Rattle.request_rules.specs.Dressing.{with_requests}
use Rattle.request_rules.specs.NodeMessages.{due_at_node_of}
use Rattle.request_rules.specs.Passing.{passing, passing_again}
use Rattle.request_rules.specs.Replies.{asker_of}
use Rattle.request_rules.specs.Scans.{on_page, on_no_page, scanning, scanning_on, took_page}
use Rattle.cluster_rules.specs.declared.event.Event.{Event}
use Rattle.cluster_rules.specs.declared.event.Event.TheVariants as event
use Rattle.cluster_rules.specs.DueEvents.{due_of, written, delivery}
use Rattle.cluster_rules.specs.Network.{Network, flying_at, landed}
use Rattle.cluster_rules.specs.World.{World}

-- ---- a step of a node

-- the lines of a step of the node with this asker in hand: what it gives up as it leaves its view stands among its own
-- lines, and the replies that these owe are its last messages
abbrev pub written_with_requests : World → Network → ℕ → Option Asker → Effects → List Line
written_with_requests w net n asker e =
    written net n (with_requests (w.requests.at n) (w.facts n) asker e)

-- a tick of the node
abbrev pub due_tick_at : ℕ → World → ℕ → List Line
due_tick_at n w node = written_with_requests w w.network node None (tick_of n (w.facts node))

-- a stop of the node
abbrev pub due_stop_at : World → ℕ → List Line
due_stop_at w node = written_with_requests w w.network node None (due_stop (w.facts node))

-- ---- a message arrives

-- at a node: whoever asks by the message is in hand
abbrev pub due_at_receiver : ℕ → World → Network → Posting → Message → List Line
due_at_receiver n w net p m =
    written_with_requests w net p.to (asker_of p.from m)
    (due_at_node_of n (w.requests.at p.to) (w.facts p.to) (w.clocks p.to) p.from m)

-- at the client, which takes tables, and replies and pages that a node sent
abbrev pub due_at_client_from : World → ℕ → Message → List Line
due_at_client_from w from (message.MapTable t) = line.Table t.key ∷ []
due_at_client_from w from (message.Reply key q b) = on_reply w.requests.calls from q b
due_at_client_from w from (message.ScanPage page) = on_page w.requests.scans from page
due_at_client_from w from (message.ScanNo s cause) = on_no_page w.requests.scans s cause
due_at_client_from w from _ = line.Stale client ∷ []

-- what arrives, if it is a message
abbrev pub due_at_end : ℕ → World → Network → Posting → Option Message → List Line
due_at_end n w net p None = []
due_at_end n w net p (Some m) =
    if p.to == client then due_at_client_from w p.from m else due_at_receiver n w net p m

-- a message arrives whole, where this network is left behind it
abbrev pub arriving_at_end : ℕ → World → Network → Posting → List Line
arriving_at_end n w net p = due_at_end n w net p (message_of p.bytes)

-- what arrives behind a cut after so many bytes, where the message is longer, or isn't
abbrev pub arriving_cut_at_end : ℕ → World → ℕ → ℕ → Posting → List Line
arriving_cut_at_end n w i size p =
    if nat_lt size (length p.bytes)
    then line.Short p.to ∷ []
    else arriving_at_end n w (landed w.network i) p

-- what reaches the client from that node counts: a table, and a page for its scan
abbrev pub came_to_client_from : World → ℕ → Message → World
came_to_client_from w from (message.MapTable t) = record w { tables = w.tables ++ t ∷ [] }
came_to_client_from w from (message.ScanPage page) =
    record w { requests = record w.requests { scans = took_page w.requests.scans from page } }
came_to_client_from w from _ = w

-- ---- requests

-- a request at the node, which may pass it on
abbrev pub due_passing : World → ℕ → List ℕ → Want → List Line
due_passing w n d q =
    written w.network n (passing (w.requests.at n).passed (w.facts n) (w.clocks n) d q)

-- the node sends again what waits for replies
abbrev pub due_passing_again : World → ℕ → List Line
due_passing_again w n =
    written w.network n (passing_again (w.requests.at n).passed (w.facts n))

-- a request of the client, which goes as a message
abbrev pub due_calling : World → List ℕ → Want → List Line
due_calling w d q = written w.network client (calling w.tables w.requests.calls d q)

-- the client sends the request of that number again
abbrev pub due_calling_again : World → ℕ → List Line
due_calling_again w q = written w.network client (calling_again w.tables w.requests.calls q)

-- ---- scans

-- the client begins a scan of the partition
abbrev pub due_scanning : World → ℕ → List Line
due_scanning w p = written w.network client (scanning w.tables w.requests.scans p)

-- the client goes on with the scan of that number
abbrev pub due_scanning_on : World → ℕ → List Line
due_scanning_on w s = written w.network client (scanning_on w.tables w.requests.scans s)

-- ---- all events

-- what is due of an event with so many partitions. Any other event is as it is without requests that are messages:
-- nothing ends in it that was taken up for somebody, and no view is left
abbrev pub due_with_requests : ℕ → World → Event → List Line
due_with_requests n w (event.Tick node) = due_tick_at n w node
due_with_requests n w (event.Stop node) = due_stop_at w node
due_with_requests n w (event.Deliver i) =
    delivery w i
    (λ p. line.Deliver i p.from p.to ∷ arriving_at_end n w (landed w.network i) p)
    (flying_at w.network i)
due_with_requests n w (event.Repeat i) =
    delivery w i (λ p. line.Repeat i p.from p.to ∷ arriving_at_end n w w.network p)
    (flying_at w.network i)
due_with_requests n w (event.Cut i size) =
    delivery w i (λ p. line.Cut i p.from p.to size ∷ arriving_cut_at_end n w i size p)
    (flying_at w.network i)
due_with_requests n w (event.ProxyPut node d v) = due_passing w node d (want.Put v)
due_with_requests n w (event.ProxyGet node d) = due_passing w node d want.Get
due_with_requests n w (event.ProxyDel node d) = due_passing w node d want.Del
due_with_requests n w (event.ProxyAgain node) = due_passing_again w node
due_with_requests n w (event.CallPut d v) = due_calling w d (want.Put v)
due_with_requests n w (event.CallGet d) = due_calling w d want.Get
due_with_requests n w (event.CallDel d) = due_calling w d want.Del
due_with_requests n w (event.CallAgain q) = due_calling_again w q
due_with_requests n w (event.Scan p) = due_scanning w p
due_with_requests n w (event.ScanNext s) = due_scanning_on w s
due_with_requests n w e = due_of n w e
