-- The lines that are due of an event. The number of partitions is an argument of what a tick and a Progress walk over.
use Rattle.std.specs.Prelude.{ℕ, ◌+◌, ◌==◌, ◌&&◌, ◌||◌, nat_lt, Bool, not, List, [], ◌∷◌, ◌++◌, length, Option, Some, None, if◌then◌else◌}
use Rattle.conflict_order.specs.declared.want.Want.{Want}
use Rattle.conflict_order.specs.declared.want.Want.TheVariants as want
use Rattle.cluster_types.specs.Partitions.{partition_count, partition_of}
use Rattle.partition_lists.specs.Lists.{list}
use Rattle.wire_messages.specs.declared.message.Message.{Message}
use Rattle.wire_messages.specs.declared.message.Message.TheVariants as message
use Rattle.wire_messages.specs.Decoding.{message_of}
use Rattle.wire_messages.specs.Spelling.{spelling}
use Rattle.journal_lines.specs.declared.line.Line.{Line}
use Rattle.journal_lines.specs.declared.line.Line.TheVariants as line
use Rattle.node_rules.specs.Effects.{Effects, sends_only, to_one}
use Rattle.node_rules.specs.Messages.{due_message_of, client}
use Rattle.node_rules.specs.Requests.{due_request, due_stop, due_start}
use Rattle.node_rules.specs.Shows.{with_roles, due_map, due_show}
use Rattle.node_rules.specs.Tick.{tick_of}
use Rattle.cluster_rules.specs.declared.event.Event.{Event}
use Rattle.cluster_rules.specs.declared.event.Event.TheVariants as event
use Rattle.node_rules.specs.Client.{node_for}
use Rattle.journal_readings.specs.Messages.{Posting}
use Rattle.cluster_rules.specs.Network.{Network, flying_at, landed, has_place, are_apart}
use Rattle.cluster_rules.specs.World.{World, is_up, members_now}

-- ---- effects as lines

-- the lines of messages that an endpoint sends, where so many were sent before and so many are in
-- flight: `full` follows one that finds no place there
abbrev pub sent_lines : ℕ → ℕ → ℕ → List (ℕ × Message) → List Line
sent_lines from sent flying [] = []
sent_lines from sent flying (m ∷ ms) =
    line.Sent (sent + 1) from m.0 (spelling m.1)
    ∷ ((if has_place flying then [] else line.Full (sent + 1) ∷ [])
    ++ sent_lines from (sent + 1) (if has_place flying then flying + 1 else flying) ms)

-- the lines of what an endpoint does: first its own, and then those of its messages
abbrev pub written : Network → ℕ → Effects → List Line
written net from e = e.lines ++ sent_lines from (length net.sent) (length net.flying) e.sends

-- ---- requests

-- a request at the node
abbrev pub due_at_node : World → ℕ → List ℕ → Want → List Line
due_at_node w n d q = written w.network n (due_request (w.facts n) (w.clocks n) d q)

-- a request of the client, where its tables name that node
abbrev pub due_at_named : World → List ℕ → Want → Option ℕ → List Line
due_at_named w d q None = line.NoMap (partition_of d) ∷ []
due_at_named w d q (Some n) = line.Client n d ∷ due_at_node w n d q

-- a request of the client: at the node that its tables name
abbrev pub due_of_client : World → List ℕ → Want → List Line
due_of_client w d q = due_at_named w d q (node_for w.tables (partition_of d))

-- ---- messages

-- the client takes tables and nothing else
abbrev pub due_at_client : Message → List Line
due_at_client (message.MapTable t) = line.Table t.key ∷ []
due_at_client _ = line.Stale client ∷ []

-- what arrives, if it is a message: at the client or at a node
abbrev pub due_arrival : ℕ → World → Network → Posting → Option Message → List Line
due_arrival n w net p None = []
due_arrival n w net p (Some m) =
    if p.to == client
    then due_at_client m
    else written net p.to (due_message_of n (w.facts p.to) (w.clocks p.to) p.from m)

-- a message arrives whole, where this network is left behind it
abbrev pub arriving : ℕ → World → Network → Posting → List Line
arriving n w net p = due_arrival n w net p (message_of p.bytes)

-- whether a delivery is blocked: the ends are nodes of different groups, or the receiver is a stopped node
abbrev pub is_blocked : World → Posting → Bool
is_blocked w p = are_apart w.network p.from p.to || (not (p.to == client) && not (is_up w p.to))

-- the lines of a delivery of the message in flight, if there is one of that number, and it isn't
-- blocked
abbrev pub delivery : World → ℕ → (Posting → List Line) → Option Posting → List Line
delivery w i lines None = line.NoMessage i ∷ []
delivery w i lines (Some p) = if is_blocked w p then line.Blocked i ∷ [] else lines p

-- a delivery takes the message out of flight
abbrev pub due_deliver : ℕ → World → ℕ → List Line
due_deliver n w i =
    delivery w i (λ p. line.Deliver i p.from p.to ∷ arriving n w (landed w.network i) p)
    (flying_at w.network i)

-- a repeated one stays in flight
abbrev pub due_repeat : ℕ → World → ℕ → List Line
due_repeat n w i =
    delivery w i (λ p. line.Repeat i p.from p.to ∷ arriving n w w.network p) (flying_at w.network i)

-- a cut takes it out of flight, also where it arrives short
abbrev pub due_cut : ℕ → World → ℕ → ℕ → List Line
due_cut n w i size =
    delivery w i
    (λ p. line.Cut i p.from p.to size
    ∷ (if nat_lt size (length p.bytes)
    then line.Short p.to ∷ []
    else arriving n w (landed w.network i) p))
    (flying_at w.network i)

-- the message, if there is one in flight, is lost
abbrev pub losing : ℕ → Option Posting → List Line
losing i None = line.NoMessage i ∷ []
losing i (Some p) = line.Lost i ∷ []

-- a loss
abbrev pub due_lose : World → ℕ → List Line
due_lose w i = losing i (flying_at w.network i)

-- ---- what is shown

-- the list of a partition over all declared nodes, with the roles that they now have
abbrev pub due_place : World → ℕ → List Line
due_place w p =
    line.Place p (with_roles (members_now w w.nodes) (list (members_now w w.nodes) p)) ∷ []

-- ---- all events

-- what is due of an event with so many partitions. The words of proxies, calls and scans aren't served yet
abbrev pub due_of : ℕ → World → Event → List Line
due_of n w (event.Clock node time) = line.Clock node time ∷ []
due_of n w (event.Groups groups) = line.Groups groups ∷ []
due_of n w (event.Tick node) = written w.network node (tick_of n (w.facts node))
due_of n w (event.Stop node) = written w.network node (due_stop (w.facts node))
due_of n w (event.Start node) = written w.network node (due_start (w.facts node))
due_of n w (event.Put node d v) = due_at_node w node d (want.Put v)
due_of n w (event.Get node d) = due_at_node w node d want.Get
due_of n w (event.Del node d) = due_at_node w node d want.Del
due_of n w (event.ClientPut d v) = due_of_client w d (want.Put v)
due_of n w (event.ClientGet d) = due_of_client w d want.Get
due_of n w (event.ClientDel d) = due_of_client w d want.Del
due_of n w (event.Ask node) = written w.network client (sends_only (to_one node message.MapAsk))
due_of n w (event.Deliver i) = due_deliver n w i
due_of n w (event.Repeat i) = due_repeat n w i
due_of n w (event.Lose i) = due_lose w i
due_of n w (event.Cut i size) = due_cut n w i size
due_of n w (event.Map node from to) = written w.network node (due_map (w.facts node) from to)
due_of n w (event.Place p) = due_place w p
due_of n w (event.Hash d) = line.Hash d (partition_of d) ∷ []
due_of n w (event.Show node d) = written w.network node (due_show (w.facts node) d)
due_of n w (event.Quiesce node) = line.Quiesce node ∷ []
due_of n w (event.Unquiesce node) = line.Unquiesce node ∷ []
due_of n w (event.Calmed rounds) = line.Calm rounds ∷ []
due_of n w _ = []

-- what is due of an event
abbrev pub due : World → Event → List Line
due w e = due_of partition_count w e
