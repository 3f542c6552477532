-- What events bring to the nodes, and what is posted.
use Rattle.std.specs.Prelude.{ℕ, ◌+◌, ◌==◌, Bool, true, false, List, [], ◌∷◌, ◌++◌, Option, Some, None, map, filter_map}
use Rattle.cluster_types.specs.Distinct.{without}
use Rattle.wire_messages.specs.declared.message.Message.{Message}
use Rattle.wire_messages.specs.Decoding.{message_of}
use Rattle.wire_messages.specs.Spelling.{spelling}
use Rattle.cluster_rules.specs.declared.event.Event.{Event}
use Rattle.cluster_rules.specs.declared.event.Event.TheVariants as event
use Rattle.cluster_rules.specs.DueEvents.{is_blocked}
use Rattle.journal_readings.specs.Messages.{Posting}
use Rattle.cluster_rules.specs.Network.{posting_at}
use Rattle.cluster_rules.specs.World.{World}
use Rattle.node_rules.specs.Messages.{client}
use Rattle.calm_laws.specs.Acts.{Input, Ticks, Gets, read_to, effects}

-- ---- postings

abbrev pub posting_from : ℕ → ℕ × Message → Posting
posting_from a m = record { from = a; to = m.0; bytes = spelling m.1 }

-- the messages of an endpoint, as they are posted
abbrev pub postings : ℕ → List (ℕ × Message) → List Posting
postings a ms = map (posting_from a) ms

-- the numbers of new messages, after so many
abbrev pub new_numbers : ℕ → List Posting → List ℕ
new_numbers s [] = []
new_numbers s (p ∷ ps) = (s + 1) ∷ new_numbers (s + 1) ps

abbrev pub letter_if : Posting → Bool → Option (ℕ × Message)
letter_if p true = read_to p.to (message_of p.bytes)
letter_if p false = None

-- the letter of a posting, with its receiver, where that endpoint sent it
abbrev pub letter_from : ℕ → Posting → Option (ℕ × Message)
letter_from a p = letter_if p (p.from == a)

-- the letters that the endpoint posted, in their order
abbrev pub letters_from : ℕ → List Posting → List (ℕ × Message)
letters_from a ps = filter_map (letter_from a) ps

-- ---- what comes to a node

abbrev pub arriving_input : Posting → Option Message → Bool → Option (ℕ × Input)
arriving_input p None b = None
arriving_input p (Some m) true = None
arriving_input p (Some m) false = Some (p.to, Gets p.from m)

abbrev pub unblocked : Posting → Bool → Option (ℕ × Input)
unblocked p true = None
unblocked p false = arriving_input p (message_of p.bytes) (p.to == client)

-- what the delivery of a posting brings to which node, if anything
abbrev pub input_of : World → Option Posting → Option (ℕ × Input)
input_of w None = None
input_of w (Some p) = unblocked p (is_blocked w p)

-- what an event of a round brings to which node, if anything
abbrev pub input : World → Event → Option (ℕ × Input)
input w (event.Deliver i) = input_of w (posting_at w.network i)
input w (event.Tick a) = Some (a, Ticks)
input w _ = None

abbrev pub given_if : Input → Bool → List Input
given_if i true = i ∷ []
given_if i false = []

-- what comes to that node
abbrev pub given : ℕ → Option (ℕ × Input) → List Input
given m None = []
given m (Some x) = given_if x.1 (x.0 == m)

-- what events bring to that node, in their order
abbrev pub ins : World → List Event → ℕ → List Input
ins w [] m = []
ins w (e ∷ es) m = given m (input w e) ++ ins w es m

-- what postings bring to that node, in their order
abbrev pub arriving_at : World → ℕ → List Posting → List Input
arriving_at w m [] = []
arriving_at w m (p ∷ ps) = given m (input_of w (Some p)) ++ arriving_at w m ps

-- the numbers that are left in flight
abbrev pub left_flying : List Event → List ℕ → List ℕ
left_flying [] fl = fl
left_flying (event.Deliver i ∷ es) fl = left_flying es (without fl i)
left_flying (_ ∷ es) fl = left_flying es fl

-- what one input makes a node post
abbrev pub outs : ℕ → World → Option (ℕ × Input) → List Posting
outs n w None = []
outs n w (Some x) = postings x.0 (effects n (w.clocks x.0) (w.facts x.0) x.1).sends
