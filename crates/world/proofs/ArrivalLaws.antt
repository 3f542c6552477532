-- Deliveries: which lines are due of them, and what they leave.
use Rattle.std.proofs.Common.{◌≡◌, ◌==◌, ℕ, Bool, true, false, List, [], ◌∷◌, ◌++◌, length, map, Option, Some, None, refl, sym, ap, subst, ◌∙◌, arith}
use Rattle.std.specs.Prelude.{nat_lt, nat_le, option_map, option_and_then, if◌then◌else◌, slice_get, ◌-◌}
use Rattle.std.proofs.lemmas.Bool.Decides.{nat_tests}
use Rattle.cluster_types.specs.Partitions.{partition_count}
use Rattle.wire_messages.specs.declared.message.MapTable.{MapTable}
use Rattle.wire_messages.specs.declared.message.Message.{Message}
use Rattle.wire_messages.specs.declared.message.Message.TheVariants as message
use Rattle.wire_messages.specs.Decoding.{message_of}
use Rattle.journal_lines.specs.declared.line.Line.{Line}
use Rattle.journal_lines.specs.declared.line.Line.TheVariants as line
use Rattle.net_script.specs.Network as nets
use Rattle.client_map.specs.declared.client_map.Entry.{Entry}
use Rattle.client_map.specs.Entries.{Holds}
use Rattle.node_rules.specs.Messages.{due_message_of, client}
use Rattle.node_rules.specs.Steps.{Planning}
use Rattle.cluster_rules.specs.declared.event.Event.{Event}
use Rattle.cluster_rules.specs.declared.event.Event.TheVariants as event
use Rattle.cluster_rules.specs.DueEvents.{due, due_at_client, due_arrival, arriving, delivery, is_blocked, written}
use Rattle.cluster_rules.specs.Marks.{Writes, after_all, after_line, event_begun, came, came_to_client, came_to_node, taken_by}
use Rattle.journal_readings.specs.Messages.{Arrival, Posting, arrived}
use Rattle.cluster_rules.specs.Network.{Network, flying_at, is_flying, landed, posting_at}
use Rattle.cluster_rules.specs.NodeSteps.{after_step}
use Rattle.cluster_rules.specs.World.{World}
use Rattle.run_laws.specs.Taken.{IsProperEvent}
use Rattle.world.specs.declared.delivery.Delivery.{Delivery}
use Rattle.world.specs.declared.delivery.Delivery.TheVariants as delivery_of
use Rattle.world.specs.Arriving.{OnlyLands, delivering, is_short_of, landed_if, landing_of, line_of_delivery}
use Rattle.world.specs.Sent.{landing_from}
use Rattle.world.specs.Stands.{Stands, IsNetwork}
use Rattle.world.specs.Steps.{RunSoFar, standing, next_lines}

-- ---- what is in flight was sent

flying_sent-if : (n : Network) (i : ℕ) (p : Posting) (b : Bool) → (if b then posting_at n i else None) ≡ Some p → posting_at n i ≡ Some p
flying_sent-if n i p true e = e
flying_sent-if n i p false e = cc

pub flying_sent : (n : Network) (i : ℕ) (p : Posting) → flying_at n i ≡ Some p → posting_at n i ≡ Some p
flying_sent n i p e = flying_sent-if n i p (is_flying n i) e

landed_posting-if : (n : Network) (i j : ℕ) (b : Bool) → (if b then slice_get (landed n j).sent (i - 1) else None) ≡ (if b then slice_get n.sent (i - 1) else None)
landed_posting-if n i j true = refl
landed_posting-if n i j false = refl

taken_posting : (n : Network) (i : ℕ) (how : Delivery) → posting_at (taken_by n (delivering i how)) i ≡ posting_at n i
taken_posting n i delivery_of.Whole = landed_posting-if n i i (nat_lt 0 i)
taken_posting n i delivery_of.Repeated = refl
taken_posting n i (delivery_of.Cut size) = landed_posting-if n i i (nat_lt 0 i)

pub taken_lands : (n : Network) (i : ℕ) (how : Delivery) → taken_by n (delivering i how) ≡ landed_if n (landing_of i how)
taken_lands n i delivery_of.Whole = refl
taken_lands n i delivery_of.Repeated = refl
taken_lands n i (delivery_of.Cut size) = refl

-- ---- the lines

absent_lines : (w : World) (i : ℕ) (how : Delivery) → flying_at w.network i ≡ None → due w (delivering i how) ≡ line.NoMessage i ∷ []
absent_lines w i delivery_of.Whole e = ap (delivery w i (λ p. line.Deliver i p.from p.to ∷ arriving partition_count w (landed w.network i) p)) e
absent_lines w i delivery_of.Repeated e = ap (delivery w i (λ p. line.Repeat i p.from p.to ∷ arriving partition_count w w.network p)) e
absent_lines w i (delivery_of.Cut size) e =
    ap (delivery w i (λ p. line.Cut i p.from p.to size ∷ (if nat_lt size (length p.bytes) then line.Short p.to ∷ [] else arriving partition_count w (landed w.network i) p))) e

blocked_lines : (w : World) (i : ℕ) (how : Delivery) (p : Posting) → flying_at w.network i ≡ Some p → is_blocked w p ≡ true → due w (delivering i how) ≡ line.Blocked i ∷ []
blocked_lines w i delivery_of.Whole p e b =
    let lines : Posting → List Line = λ p. line.Deliver i p.from p.to ∷ arriving partition_count w (landed w.network i) p in
    ap (delivery w i lines) e ∙ ap (λ (holds : Bool). if holds then line.Blocked i ∷ [] else lines p) b
blocked_lines w i delivery_of.Repeated p e b =
    let lines : Posting → List Line = λ p. line.Repeat i p.from p.to ∷ arriving partition_count w w.network p in
    ap (delivery w i lines) e ∙ ap (λ (holds : Bool). if holds then line.Blocked i ∷ [] else lines p) b
blocked_lines w i (delivery_of.Cut size) p e b =
    let lines : Posting → List Line = λ p. line.Cut i p.from p.to size ∷ (if nat_lt size (length p.bytes) then line.Short p.to ∷ [] else arriving partition_count w (landed w.network i) p) in
    ap (delivery w i lines) e ∙ ap (λ (holds : Bool). if holds then line.Blocked i ∷ [] else lines p) b

short_lines : (w : World) (i : ℕ) (how : Delivery) (p : Posting) → flying_at w.network i ≡ Some p → is_blocked w p ≡ false → is_short_of (length p.bytes) how ≡ true
    → due w (delivering i how) ≡ line_of_delivery i p.from p.to how ∷ line.Short p.to ∷ []
short_lines w i delivery_of.Whole p e b s = cc
short_lines w i delivery_of.Repeated p e b s = cc
short_lines w i (delivery_of.Cut size) p e b s =
    let lines : Posting → List Line = λ p. line.Cut i p.from p.to size ∷ (if nat_lt size (length p.bytes) then line.Short p.to ∷ [] else arriving partition_count w (landed w.network i) p) in
    ap (delivery w i lines) e ∙ ap (λ (holds : Bool). if holds then line.Blocked i ∷ [] else lines p) b ∙ ap (λ t. line.Cut i p.from p.to size ∷ (if t then line.Short p.to ∷ [] else arriving partition_count w (landed w.network i) p)) s

-- what arrives whole
whole_lines : (w : World) (i : ℕ) (how : Delivery) (p : Posting) → flying_at w.network i ≡ Some p → is_blocked w p ≡ false → is_short_of (length p.bytes) how ≡ false
    → due w (delivering i how) ≡ line_of_delivery i p.from p.to how ∷ arriving partition_count w (taken_by w.network (delivering i how)) p
whole_lines w i delivery_of.Whole p e b s =
    let lines : Posting → List Line = λ p. line.Deliver i p.from p.to ∷ arriving partition_count w (landed w.network i) p in
    ap (delivery w i lines) e ∙ ap (λ (holds : Bool). if holds then line.Blocked i ∷ [] else lines p) b
whole_lines w i delivery_of.Repeated p e b s =
    let lines : Posting → List Line = λ p. line.Repeat i p.from p.to ∷ arriving partition_count w w.network p in
    ap (delivery w i lines) e ∙ ap (λ (holds : Bool). if holds then line.Blocked i ∷ [] else lines p) b
whole_lines w i (delivery_of.Cut size) p e b s =
    let lines : Posting → List Line = λ p. line.Cut i p.from p.to size ∷ (if nat_lt size (length p.bytes) then line.Short p.to ∷ [] else arriving partition_count w (landed w.network i) p) in
    ap (delivery w i lines) e ∙ ap (λ (holds : Bool). if holds then line.Blocked i ∷ [] else lines p) b ∙ ap (λ t. line.Cut i p.from p.to size ∷ (if t then line.Short p.to ∷ [] else arriving partition_count w (landed w.network i) p)) s

unread_lines : (w : World) (i : ℕ) (how : Delivery) (p : Posting) → flying_at w.network i ≡ Some p → is_blocked w p ≡ false → is_short_of (length p.bytes) how ≡ false
    → message_of p.bytes ≡ None → due w (delivering i how) ≡ line_of_delivery i p.from p.to how ∷ []
unread_lines w i how p e b s none =
    whole_lines w i how p e b s ∙ ap (λ o. line_of_delivery i p.from p.to how ∷ due_arrival partition_count w (taken_by w.network (delivering i how)) p o) none

read_lines : (w : World) (i : ℕ) (how : Delivery) (p : Posting) (m : Message) → flying_at w.network i ≡ Some p → is_blocked w p ≡ false → is_short_of (length p.bytes) how ≡ false
    → message_of p.bytes ≡ Some m → due w (delivering i how) ≡ line_of_delivery i p.from p.to how ∷ (if p.to == client then due_at_client m else written (taken_by w.network (delivering i how)) p.to (due_message_of partition_count (w.facts p.to) (w.clocks p.to) p.from m))
read_lines w i how p m e b s read =
    whole_lines w i how p e b s ∙ ap (λ o. line_of_delivery i p.from p.to how ∷ due_arrival partition_count w (taken_by w.network (delivering i how)) p o) read

pub client_lines : (w : World) (i : ℕ) (how : Delivery) (p : Posting) (m : Message) → flying_at w.network i ≡ Some p → is_blocked w p ≡ false → is_short_of (length p.bytes) how ≡ false
    → message_of p.bytes ≡ Some m → p.to ≡ client → due w (delivering i how) ≡ line_of_delivery i p.from p.to how ∷ due_at_client m
client_lines w i how p m e b s read end =
    let test : (p.to == client) ≡ true = grind (arith, nat_tests, end) in
    read_lines w i how p m e b s read ∙ ap (λ t. line_of_delivery i p.from p.to how ∷ (if t then due_at_client m else written (taken_by w.network (delivering i how)) p.to (due_message_of partition_count (w.facts p.to) (w.clocks p.to) p.from m))) test

pub node_lines : (w : World) (i : ℕ) (how : Delivery) (p : Posting) (m : Message) → flying_at w.network i ≡ Some p → is_blocked w p ≡ false → is_short_of (length p.bytes) how ≡ false
    → message_of p.bytes ≡ Some m → (p.to ≡ client → ⊥)
    → due w (delivering i how) ≡ line_of_delivery i p.from p.to how ∷ written (taken_by w.network (delivering i how)) p.to (due_message_of partition_count (w.facts p.to) (w.clocks p.to) p.from m)
node_lines w i how p m e b s read end =
    let test : (p.to == client) ≡ false = grind (arith, nat_tests, end) in
    read_lines w i how p m e b s read ∙ ap (λ t. line_of_delivery i p.from p.to how ∷ (if t then due_at_client m else written (taken_by w.network (delivering i how)) p.to (due_message_of partition_count (w.facts p.to) (w.clocks p.to) p.from m))) test

-- ---- the line of a delivery

-- what comes at it
pub whole_comes : (w : World) (i : ℕ) (how : Delivery) (p : Posting) → posting_at w.network i ≡ Some p → is_short_of (length p.bytes) how ≡ false
    → after_line (event_begun w (delivering i how)) (line_of_delivery i p.from p.to how) ≡ came (event_begun w (delivering i how)) (arrived p.to p)
whole_comes w i delivery_of.Whole p e s = ap (λ (o : Option Posting). came (event_begun w (event.Deliver i)) (option_and_then (arrived p.to) o)) (taken_posting w.network i delivery_of.Whole ∙ e)
whole_comes w i delivery_of.Repeated p e s = ap (λ (o : Option Posting). came (event_begun w (event.Repeat i)) (option_and_then (arrived p.to) o)) e
whole_comes w i (delivery_of.Cut size) p e s =
    let fits : nat_le (length p.bytes) size ≡ true = grind (arith, nat_tests, s) in
    ap (λ (o : Option Posting). came (event_begun w (event.Cut i size)) (option_and_then (Rattle.journal_readings.specs.Messages.arrived_cut p.to size) o)) (taken_posting w.network i (delivery_of.Cut size) ∙ e)
    ∙ ap (λ b. came (event_begun w (event.Cut i size)) (if b then arrived p.to p else None)) fits

short_comes : (w : World) (i : ℕ) (how : Delivery) (p : Posting) → posting_at w.network i ≡ Some p → is_short_of (length p.bytes) how ≡ true
    → after_line (event_begun w (delivering i how)) (line_of_delivery i p.from p.to how) ≡ event_begun w (delivering i how)
short_comes w i delivery_of.Whole p e s = cc
short_comes w i delivery_of.Repeated p e s = cc
short_comes w i (delivery_of.Cut size) p e s =
    let fails : nat_le (length p.bytes) size ≡ false = grind (arith, nat_tests, s) in
    ap (λ (o : Option Posting). came (event_begun w (event.Cut i size)) (option_and_then (Rattle.journal_readings.specs.Messages.arrived_cut p.to size) o)) (taken_posting w.network i (delivery_of.Cut size) ∙ e)
    ∙ ap (λ b. came (event_begun w (event.Cut i size)) (if b then arrived p.to p else None)) fails

arrived_none : (p : Posting) → message_of p.bytes ≡ None → arrived p.to p ≡ None
arrived_none p e = ap (option_map (λ (m : Message). record { from = p.from; to = p.to; message = m })) e

pub arrived_some : (p : Posting) (m : Message) → message_of p.bytes ≡ Some m → arrived p.to p ≡ Some (record { from = p.from; to = p.to; message = m })
arrived_some p m e = ap (option_map (λ (m : Message). record { from = p.from; to = p.to; message = m })) e

-- ---- deliveries that make nobody do anything

only_lands : (r : RunSoFar) (i : ℕ) (how : Delivery) (ls : List Line) → due (standing r) (delivering i how) ≡ ls
    → after_all (event_begun (standing r) (delivering i how)) (map Writes ls) ≡ event_begun (standing r) (delivering i how) → OnlyLands r (delivering i how) (landing_of i how)
only_lands r i how ls made none = record {
  lands = taken_lands (standing r).network i how;
  only = ap (λ (xs : List Line). after_all (event_begun (standing r) (delivering i how)) (map Writes xs)) made ∙ none;
}

pub record PassesOver (r : RunSoFar) (i : ℕ) (how : Delivery) (ls : List Line) : Type 0 where
  pub due : ls ≡ next_lines r (delivering i how)
  pub lands : OnlyLands r (delivering i how) (landing_of i how)

pub absent_over : (r : RunSoFar) (i : ℕ) (how : Delivery) → flying_at (standing r).network i ≡ None → PassesOver r i how (line.NoMessage i ∷ [])
unfolding next_lines
absent_over r i how none =
    let lines : due (standing r) (delivering i how) ≡ line.NoMessage i ∷ [] = absent_lines (standing r) i how none in
    record { due = sym lines; lands = only_lands r i how (line.NoMessage i ∷ []) lines refl }

pub blocked_over : (r : RunSoFar) (i : ℕ) (how : Delivery) (p : Posting) → flying_at (standing r).network i ≡ Some p → is_blocked (standing r) p ≡ true → PassesOver r i how (line.Blocked i ∷ [])
unfolding next_lines
blocked_over r i how p e b =
    let lines : due (standing r) (delivering i how) ≡ line.Blocked i ∷ [] = blocked_lines (standing r) i how p e b in
    record { due = sym lines; lands = only_lands r i how (line.Blocked i ∷ []) lines refl }

pub short_over : (r : RunSoFar) (i : ℕ) (how : Delivery) (p : Posting) → flying_at (standing r).network i ≡ Some p → is_blocked (standing r) p ≡ false → is_short_of (length p.bytes) how ≡ true
    → PassesOver r i how (line_of_delivery i p.from p.to how ∷ line.Short p.to ∷ [])
unfolding next_lines
short_over r i how p e b s =
    let lines = short_lines (standing r) i how p e b s in
    record {
      due = sym lines;
      lands = only_lands r i how (line_of_delivery i p.from p.to how ∷ line.Short p.to ∷ []) lines (ap (λ v. after_line v (line.Short p.to)) (short_comes (standing r) i how p (flying_sent (standing r).network i p e) s));
    }

pub unread_over : (r : RunSoFar) (i : ℕ) (how : Delivery) (p : Posting) → flying_at (standing r).network i ≡ Some p → is_blocked (standing r) p ≡ false → is_short_of (length p.bytes) how ≡ false
    → message_of p.bytes ≡ None → PassesOver r i how (line_of_delivery i p.from p.to how ∷ [])
unfolding next_lines
unread_over r i how p e b s none =
    let lines = unread_lines (standing r) i how p e b s none in
    record {
      due = sym lines;
      lands = only_lands r i how (line_of_delivery i p.from p.to how ∷ []) lines
          (whole_comes (standing r) i how p (flying_sent (standing r).network i p e) s ∙ ap (came (event_begun (standing r) (delivering i how))) (arrived_none p none));
    }

-- ---- at the client

at_client : (w : World) (i : ℕ) (how : Delivery) (p : Posting) (m : Message) → posting_at w.network i ≡ Some p → is_short_of (length p.bytes) how ≡ false → message_of p.bytes ≡ Some m → p.to ≡ client
    → after_line (event_begun w (delivering i how)) (line_of_delivery i p.from p.to how) ≡ came_to_client (event_begun w (delivering i how)) m
at_client w i how p m e s read end =
    let test : (p.to == client) ≡ true = grind (arith, nat_tests, end) in
    whole_comes w i how p e s ∙ ap (came (event_begun w (delivering i how))) (arrived_some p m read)
    ∙ ap (λ (holds : Bool). if holds then came_to_client (event_begun w (delivering i how)) m else came_to_node (event_begun w (delivering i how)) (record { from = p.from; to = p.to; message = m })) test

other_due : (m : Message) → ((t : MapTable) → m ≡ message.MapTable t → ⊥) → due_at_client m ≡ line.Stale client ∷ []
other_due (message.MapTable t) differs = absurd (differs t refl)
other_due m differs = refl

other_came : (w : World) (m : Message) → ((t : MapTable) → m ≡ message.MapTable t → ⊥) → came_to_client w m ≡ w
other_came w (message.MapTable t) differs = absurd (differs t refl)
other_came w m differs = refl

pub stale_over : (r : RunSoFar) (i : ℕ) (how : Delivery) (p : Posting) (m : Message) → flying_at (standing r).network i ≡ Some p → is_blocked (standing r) p ≡ false → is_short_of (length p.bytes) how ≡ false
    → message_of p.bytes ≡ Some m → p.to ≡ client → ((t : MapTable) → m ≡ message.MapTable t → ⊥) → PassesOver r i how (line_of_delivery i p.from p.to how ∷ line.Stale client ∷ [])
unfolding next_lines
stale_over r i how p m e b s read end differs =
    let lines : due (standing r) (delivering i how) ≡ line_of_delivery i p.from p.to how ∷ line.Stale client ∷ [] =
    client_lines (standing r) i how p m e b s read end ∙ ap (λ ls. line_of_delivery i p.from p.to how ∷ ls) (other_due m differs) in
    record {
      due = sym lines;
      lands = only_lands r i how (line_of_delivery i p.from p.to how ∷ line.Stale client ∷ []) lines
          (ap (λ v. after_line v (line.Stale client)) (at_client (standing r) i how p m (flying_sent (standing r).network i p e) s read end ∙ other_came (event_begun (standing r) (delivering i how)) m differs));
    }

-- a table comes to the client
pub record TableComes (r : RunSoFar) (i : ℕ) (how : Delivery) (t : MapTable) (ls : List Line) : Type 0 where
  pub due : ls ≡ next_lines r (delivering i how)
  pub world : after_step (standing r) (delivering i how) ≡ record (event_begun (standing r) (delivering i how)) { tables = (standing r).tables ++ t ∷ [] }

pub table_comes : (r : RunSoFar) (i : ℕ) (how : Delivery) (p : Posting) (t : MapTable) → flying_at (standing r).network i ≡ Some p → is_blocked (standing r) p ≡ false → is_short_of (length p.bytes) how ≡ false
    → message_of p.bytes ≡ Some (message.MapTable t) → p.to ≡ client → TableComes r i how t (line_of_delivery i p.from p.to how ∷ line.Table t.key ∷ [])
unfolding next_lines
table_comes r i how p t e b s read end =
    let lines : due (standing r) (delivering i how) ≡ line_of_delivery i p.from p.to how ∷ line.Table t.key ∷ [] = client_lines (standing r) i how p (message.MapTable t) e b s read end in
    record {
      due = sym lines;
      world =
          ap (λ (xs : List Line). after_all (event_begun (standing r) (delivering i how)) (map Writes xs)) lines
          ∙ ap (λ v. after_line v (line.Table t.key)) (at_client (standing r) i how p (message.MapTable t) (flying_sent (standing r).network i p e) s read end);
    }

pub stands_table : (r : RunSoFar) (i : ℕ) (how : Delivery) (t : MapTable) (ls : List Line) (ids : List ℕ) (nodes : List Planning) (clocks : List ℕ) (net net' : nets.NetworkState) (entries entries' : List (Option Entry))
    → TableComes r i how t ls → Stands (standing r) ids nodes clocks net entries → nets.IsSameNetwork (landing_from net (landing_of i how)) net'
    → Holds ((standing r).tables ++ t ∷ []) entries' → Stands (after_step (standing r) (delivering i how)) ids nodes clocks net' entries'
stands_table r i how t ls ids nodes clocks net net' entries entries' comes h same held =
    subst (λ (v : World). Stands v ids nodes clocks net' entries') (sym comes.world) (record {
      declared = h.declared;
      facts = h.facts;
      times = h.times;
      network = subst (λ (n : Network). IsNetwork net' n) (sym (taken_lands (standing r).network i how)) (Rattle.world.proofs.EventLaws.landed_network net net' (standing r).network (landing_of i how) h.network same);
      tables = held;
    })

-- ---- at a node

pub at_node : (w : World) (i : ℕ) (how : Delivery) (p : Posting) (m : Message) → posting_at w.network i ≡ Some p → is_short_of (length p.bytes) how ≡ false → message_of p.bytes ≡ Some m → (p.to ≡ client → ⊥)
    → after_line (event_begun w (delivering i how)) (line_of_delivery i p.from p.to how) ≡ came_to_node (event_begun w (delivering i how)) (record { from = p.from; to = p.to; message = m })
at_node w i how p m e s read end =
    let test : (p.to == client) ≡ false = grind (arith, nat_tests, end) in
    whole_comes w i how p e s ∙ ap (came (event_begun w (delivering i how))) (arrived_some p m read)
    ∙ ap (λ (holds : Bool). if holds then came_to_client (event_begun w (delivering i how)) m else came_to_node (event_begun w (delivering i how)) (record { from = p.from; to = p.to; message = m })) test

-- ---- of the event as it came

pub over_due : (r : RunSoFar) (e : Event) (i : ℕ) (how : Delivery) (ls : List Line) → e ≡ delivering i how → PassesOver r i how ls → ls ≡ next_lines r e
over_due r e i how ls is over = subst (λ (x : Event). ls ≡ next_lines r x) (sym is) over.due

pub over_lands : (r : RunSoFar) (e : Event) (i : ℕ) (how : Delivery) (landing : Option ℕ) (ls : List Line) → e ≡ delivering i how → landing ≡ landing_of i how → PassesOver r i how ls → OnlyLands r e landing
over_lands r e i how landing ls is same over =
    subst (λ (x : Event). OnlyLands r x landing) (sym is) (subst (λ (o : Option ℕ). OnlyLands r (delivering i how) o) (sym same) over.lands)

proper_whole : (i : ℕ) (how : Delivery) → IsProperEvent (delivering i how)
proper_whole i delivery_of.Whole = tt
proper_whole i delivery_of.Repeated = tt
proper_whole i (delivery_of.Cut size) = tt

pub over_proper : (e : Event) (i : ℕ) (how : Delivery) → e ≡ delivering i how → IsProperEvent e
over_proper e i how is = subst IsProperEvent (sym is) (proper_whole i how)
