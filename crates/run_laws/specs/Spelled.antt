-- The messages that a step makes due, which are to be read as they were sent; and nodes in views, which are to be declared.
use Rattle.std.specs.Prelude.{◌≡◌, ℕ, List, [], Option, Some, None, IsTrue, Bool, true, false}
use Rattle.conflict_order.specs.declared.want.Want.{Want}
use Rattle.conflict_order.specs.declared.want.Want.TheVariants as want
use Rattle.cluster_types.specs.Partitions.{partition_count, partition_of}
use Rattle.wire_messages.specs.declared.message.Message.{Message}
use Rattle.wire_messages.specs.declared.message.Message.TheVariants as message
use Rattle.wire_messages.specs.Decoding.{message_of}
use Rattle.wire_messages.specs.Spelling.{spelling}
use Rattle.node_rules.specs.Exchange.{View}
use Rattle.node_rules.specs.Messages.{due_message}
use Rattle.node_rules.specs.Requests.{due_request}
use Rattle.node_rules.specs.Tables.{contains}
use Rattle.node_rules.specs.Tick.{tick_of}
use Rattle.cluster_rules.specs.declared.event.Event.{Event}
use Rattle.cluster_rules.specs.declared.event.Event.TheVariants as event
use Rattle.node_rules.specs.Client.{node_for}
use Rattle.journal_readings.specs.Messages.{Posting}
use Rattle.cluster_rules.specs.Network.{flying_at}
use Rattle.cluster_rules.specs.World.{World}
use Rattle.run_laws.specs.Tied.{Each}

abbrev pub request_sends : World → Option ℕ → List ℕ → Want → List (ℕ × Message)
request_sends w None d q = []
request_sends w (Some n) d q = (due_request (w.facts n) (w.clocks n) d q).sends

abbrev pub arrived_sends : World → Posting → Option Message → List (ℕ × Message)
arrived_sends w p None = []
arrived_sends w p (Some m) = (due_message (w.facts p.to) (w.clocks p.to) p.from m).sends

abbrev pub flying_sends : World → Option Posting → List (ℕ × Message)
flying_sends w None = []
flying_sends w (Some p) = arrived_sends w p (message_of p.bytes)

-- what the event's step may send
abbrev pub sends_of : World → Event → List (ℕ × Message)
sends_of w (event.Tick n) = (tick_of partition_count (w.facts n)).sends
sends_of w (event.Put n d v) = request_sends w (Some n) d (want.Put v)
sends_of w (event.Get n d) = request_sends w (Some n) d want.Get
sends_of w (event.Del n d) = request_sends w (Some n) d want.Del
sends_of w (event.ClientPut d v) = request_sends w (node_for w.tables (partition_of d)) d
    (want.Put v)
sends_of w (event.ClientGet d) = request_sends w (node_for w.tables (partition_of d)) d want.Get
sends_of w (event.ClientDel d) = request_sends w (node_for w.tables (partition_of d)) d want.Del
sends_of w (event.Deliver i) = flying_sends w (flying_at w.network i)
sends_of w (event.Repeat i) = flying_sends w (flying_at w.network i)
sends_of w (event.Cut i size) = flying_sends w (flying_at w.network i)
sends_of w _ = []

-- the kinds of which a licence reads what they say, whose ranges are laws of the facts
abbrev pub is_ranged : Message → Bool
is_ranged (message.State k wants row) = true
is_ranged (message.Batch b) = true
is_ranged (message.Repl k t nth d v) = true
is_ranged (message.Ask k t d) = true
is_ranged (message.Answer k t v) = true
is_ranged _ = false

-- each of these messages of the view is read as it was spelled: so it is where numbers, digests, versions and rows keep their ranges
abbrev pub AreReadInRange : List (ℕ × Message) → Type 0
AreReadInRange ss =
    Each (λ (s : ℕ × Message). is_ranged s.1 ≡ true → message_of (spelling s.1) ≡ Some s.1) ss

abbrev pub SendsRead : World → Event → Type 0
SendsRead w e = AreReadInRange (sends_of w e)

-- who is in a view is declared
abbrev pub ViewsDeclared : World → Type 0
ViewsDeclared w =
    (n : ℕ) (v : View) → (w.facts n).exchange.view ≡ Some v → IsTrue (contains w.nodes n)
