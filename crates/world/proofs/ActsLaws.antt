-- Steps that an endpoint takes, in a world.
use Rattle.std.proofs.Common.{◌≡◌, ◌==◌, ◌&&◌, ◌⊎◌, not, ℕ, ◌≤◌, ◌<◌, Bool, true, false, List, [], ◌∷◌, ◌++◌, length, map, set, get_or, Option, Some, None, Result, Ok, Err, OnOk, OnErr, IfSome, refl, sym, ap, ap₂, subst, ◌∙◌, arith}
use Rattle.std.specs.Prelude.{IsErrOf, Contains, is_some, option_map}
use Rattle.std.specs.Borrow.{Bor}
use Rattle.std.specs.Option.{option_copied}
use Rattle.std.proofs.lemmas.Bool.Decides.{nat_tests}
use Rattle.conflict_order.specs.declared.want.Want.{Want}
use Rattle.conflict_order.specs.declared.want.Want.TheVariants as want
use Rattle.cluster_types.specs.Partitions.{partition_count, partition_of}
use Rattle.wire_messages.specs.declared.message.Message.{Message}
use Rattle.wire_messages.specs.declared.message.Message.TheVariants as message
use Rattle.wire_messages.specs.Nodes.{IsId}
use Rattle.wire_messages.specs.Proper.{IsProper}
use Rattle.wire_messages.specs.Requests.{IsWant}
use Rattle.wire_messages.specs.Spelling.{spelling}
use Rattle.wire_messages.specs.Versions.{IsDigest}
use Rattle.wire_messages.proofs.DecodingLaws.{what_is_read}
use Rattle.journal_lines.specs.declared.line.Line.{Line}
use Rattle.journal_lines.specs.declared.line.Line.TheVariants as line
use Rattle.journal_text.specs.Journals.{IsWithin, line_limit}
use Rattle.client_map.specs.declared.client_map.Entry.{Entry}
use Rattle.net_script.specs.declared.net.Flying.{Flying}
use Rattle.net_script.specs.Network as nets
use Rattle.node_rules.specs.Client.{node_for}
use Rattle.node_rules.specs.Effects.{sends_only, to_one}
use Rattle.node_rules.specs.Facts.{Facts}
use Rattle.node_rules.specs.Messages.{due_message, client}
use Rattle.node_rules.specs.Requests.{due_request, due_stop}
use Rattle.std.proofs.Math.Seq.{map-set_same}
use Rattle.cluster_types.proofs.BoolFacts.{neither_right as or_right}
use Rattle.node_rules.specs.Steps.{Planning, after_message, after_request, after_stop, after_tick, planning, unplanned}
use Rattle.node_rules.specs.Tick.{due_tick}
use Rattle.node_steps.specs.declared.effects.Effects.{Effects}
use Rattle.node_steps.specs.Counts.{HaveNumbers}
use Rattle.node_rules.specs.Senders.{ComesFrom}
use Rattle.node_steps.specs.Spelled.{spelled}
use Rattle.cluster_rules.specs.declared.event.Event.{Event}
use Rattle.cluster_rules.specs.declared.event.Event.TheVariants as event
use Rattle.cluster_rules.specs.DueEvents.{is_blocked, written}
use Rattle.journal_readings.specs.Messages.{Posting}
use Rattle.cluster_rules.specs.Network.{are_apart}
use Rattle.cluster_rules.specs.NodeSteps.{after_step}
use Rattle.cluster_rules.specs.Opening.{declared_nodes}
use Rattle.cluster_rules.specs.World.{is_up}
use Rattle.run_laws.specs.Taken.{IsProperEvent}
use Rattle.world.specs.declared.arriving.Arriving.{Arriving}
use Rattle.world.specs.declared.delivery.Delivery.TheVariants as delivery_of
use Rattle.world.specs.declared.delivery.Delivery.{Delivery}
use Rattle.world.specs.declared.fault.StepFault.{StepFault}
use Rattle.world.specs.declared.fault.StepFault.TheVariants as fault
use Rattle.world.specs.declared.ledger.Ledger.{Ledger}
use Rattle.world.specs.declared.taking.EndStep.{EndStep}
use Rattle.world.specs.declared.world.World.TheInside.{Inside}
use Rattle.world.specs.Arriving.{Arrives, delivering, landing_of, line_of_delivery}
use Rattle.world.specs.Kept.{Keeps, run_of}
use Rattle.world.specs.Ledgers.{IsSameLedger, Wrote}
use Rattle.world.specs.Sent.{IsInFlight, all_posted_in, landing_from}
use Rattle.world.specs.Stands.{Stands, flying_posting}
use Rattle.world.specs.Steps.{RunSoFar, MayCome, StandsAt, TakesStep, client_requesting, next_lines, requesting, run_of_events, standing}
use Rattle.world.specs.Taking.{end_step_lines}
use Rattle.world.proofs.ActingLaws.{KnowsNone, arrival_stands, ask_lines, ask_stands, client_request_lines, client_stands, knows_none, request_lines, request_stands, stop_stands, tick_stands, written_lines}
use Rattle.world.proofs.ArrivalLaws.{flying_sent, node_lines, taken_lands}
use Rattle.world.proofs.EventLaws.{TellsOnly}
use Rattle.world.proofs.KeepLaws.{distinct_of, fits_of, id_at, keeps_after, keeps_same, named_declared, stands_of, step_taken}
use Rattle.world.proofs.KnownLaws.{placed_declared}
use Rattle.world.proofs.NetLaws.{found}
use Rattle.world.proofs.Places.{at_set, set_twice}
use Rattle.world.proofs.RunFacts.{are_read, asks, come, known, numbers, receivers}
use Rattle.world.proofs.SendingLaws.{sent_few}

abbrev step_of : Event → ℕ → Effects → EndStep
step_of e n effects = record { event = record { marker = record {}; value = e }; from = n; landing = None; effects = effects }

-- the step of a node at that place writes what is due of its event, and leaves the parts as the world stands after it
pub record Acts (w : Inside) (now : RunSoFar) (s : EndStep) (place : ℕ) (new : Facts) : Type 0 where
  pub due : end_step_lines s w.net ≡ next_lines now s.event.value
  pub stands : (node : Planning) (net : nets.NetworkState) → nets.AreNumbers w.net.sent (nets.flying_ids w.net.flying) → node.now ≡ new
      → nets.IsSameNetwork (all_posted_in (landing_from w.net s.landing) s.from s.effects.sends) net
      → Stands (after_step (standing now) s.event.value) w.ids (set w.nodes.items place node) w.clocks.items net w.client
  pub proper : IsProperEvent s.event.value

-- ---- its result

pub acts_takes : (w : Inside) (now : RunSoFar) (s : EndStep) (place : ℕ) (facts : Facts) (new : Ledger) (r : Result (Unit {0}) StepFault) → run_of w ≡ now → Keeps w → Acts w now s place facts
    → OnOk r (Wrote w.ledger new (end_step_lines s w.net) s.event.value) → OnOk r (IsWithin (w.ledger.journal.lines ++ end_step_lines s w.net)) → (IsErrOf r fault.RunTooLong → ¬ IsWithin (w.ledger.journal.lines ++ end_step_lines s w.net)) → OnErr r (IsSameLedger w.ledger new)
    → TakesStep now (run_of_events w.header.items new.events.items) s.event.value r
acts_takes w now s place facts new r seen k acts wrote within long same = step_taken w now new s.event.value (end_step_lines s w.net) r seen k acts.due wrote within long same

-- ---- events of a node

tick_there : (w : Inside) (now : RunSoFar) (n place : ℕ) → run_of w ≡ now → Keeps w → StandsAt now place n → is_up (standing now) n ≡ true → IsId n
    → Acts w now (step_of (event.Tick n) n (spelled (due_tick ((standing now).facts n)))) place (after_tick ((standing now).facts n))
unfolding next_lines
tick_there w now n place seen k at up id =
    let stands = stands_of w now seen k in
    let fits = fits_of w now seen k in
    record {
      due = written_lines w.net (standing now).network n None (due_tick ((standing now).facts n)) stands.network;
      stands = λ node net counted is same.
          tick_stands now n w.ids w.nodes.items w.clocks.items w.net net w.client place node stands (distinct_of w now seen k) (id_at w now place n seen k at) counted ((known now fits.taken).me n)
          ((are_read now w.net.sent w.ledger.journal.lines fits).tick n up) is same;
      proper = id;
    }

pub tick_acts : (w : Inside) (now : RunSoFar) (e : Event) (n place : ℕ) (f : Facts) (effects : Effects) → run_of w ≡ now → Keeps w → StandsAt now place n → f ≡ (standing now).facts n → f.up ≡ true → e ≡ event.Tick n → IsId n
    → effects ≡ spelled (due_tick f) → Acts w now (step_of e n effects) place (after_tick f)
tick_acts w now e n place f effects seen k at here up is id made =
    subst (λ (x : Event). Acts w now (step_of x n effects) place (after_tick f)) (sym is)
    (subst (λ (g : Facts). Acts w now (step_of (event.Tick n) n effects) place (after_tick g)) (sym here)
    (subst (λ (x : Effects). Acts w now (step_of (event.Tick n) n x) place (after_tick ((standing now).facts n))) (sym (made ∙ ap (λ (g : Facts). spelled (due_tick g)) here))
    (tick_there w now n place seen k at (sym (ap (λ (g : Facts). g.up) here) ∙ up) id)))

stop_there : (w : Inside) (now : RunSoFar) (n place : ℕ) → run_of w ≡ now → Keeps w → StandsAt now place n
    → Acts w now (step_of (event.Stop n) n (spelled (due_stop ((standing now).facts n)))) place (after_stop ((standing now).facts n))
unfolding next_lines
stop_there w now n place seen k at =
    let stands = stands_of w now seen k in
    let fits = fits_of w now seen k in
    record {
      due = written_lines w.net (standing now).network n None (due_stop ((standing now).facts n)) stands.network;
      stands = λ node net counted is same.
          stop_stands now n w.ids w.nodes.items w.clocks.items w.net net w.client place node stands (distinct_of w now seen k) (id_at w now place n seen k at) counted ((known now fits.taken).me n) is same;
      proper = tt;
    }

pub stop_acts : (w : Inside) (now : RunSoFar) (e : Event) (n place : ℕ) (f : Facts) (effects : Effects) → run_of w ≡ now → Keeps w → StandsAt now place n → f ≡ (standing now).facts n → e ≡ event.Stop n
    → effects ≡ spelled (due_stop f) → Acts w now (step_of e n effects) place (after_stop f)
stop_acts w now e n place f effects seen k at here is made =
    subst (λ (x : Event). Acts w now (step_of x n effects) place (after_stop f)) (sym is)
    (subst (λ (g : Facts). Acts w now (step_of (event.Stop n) n effects) place (after_stop g)) (sym here)
    (subst (λ (x : Effects). Acts w now (step_of (event.Stop n) n x) place (after_stop ((standing now).facts n))) (sym (made ∙ ap (λ (g : Facts). spelled (due_stop g)) here))
    (stop_there w now n place seen k at)))

-- ---- requests

-- what a request brings keeps its ranges
pub record Ranges (d : List ℕ) (q : Want) (e : Event) : Type 0 where
  pub digest : IsDigest d
  pub want_fits : IsWant q
  pub proper : IsProperEvent e

ranges_of : (n : ℕ) (d : List ℕ) (q : Want) → IsProperEvent (requesting n d q) → Ranges d q (requesting n d q)
ranges_of n d want.Get h = record { digest = h; want_fits = tt; proper = h }
ranges_of n d (want.Put v) h = record { digest = h.0; want_fits = h.1; proper = h }
ranges_of n d want.Del h = record { digest = h; want_fits = tt; proper = h }

client_ranges_of : (d : List ℕ) (q : Want) → IsProperEvent (client_requesting d q) → Ranges d q (client_requesting d q)
client_ranges_of d want.Get h = record { digest = h; want_fits = tt; proper = h }
client_ranges_of d (want.Put v) h = record { digest = h.0; want_fits = h.1; proper = h }
client_ranges_of d want.Del h = record { digest = h; want_fits = tt; proper = h }

request_there : (w : Inside) (now : RunSoFar) (n place : ℕ) (d : List ℕ) (q : Want) → run_of w ≡ now → Keeps w → StandsAt now place n → IsProperEvent (requesting n d q)
    → Acts w now (step_of (requesting n d q) n (spelled (due_request ((standing now).facts n) ((standing now).clocks n) d q))) place (after_request ((standing now).facts n) ((standing now).clocks n) d q)
request_there w now n place d q seen k at proper =
    let stands = stands_of w now seen k in
    let fits = fits_of w now seen k in
    let ranges : Ranges d q (requesting n d q) = ranges_of n d q proper in
    record {
      due = written_lines w.net (standing now).network n None (due_request ((standing now).facts n) ((standing now).clocks n) d q) stands.network ∙ request_lines now n d q;
      stands = λ node net counted is same.
          request_stands now n d q w.ids w.nodes.items w.clocks.items w.net net w.client place node stands (distinct_of w now seen k) (id_at w now place n seen k at) counted ((known now fits.taken).me n)
          ((are_read now w.net.sent w.ledger.journal.lines fits).request n d q ranges.digest ranges.want_fits) is same;
      proper = ranges.proper;
    }

pub request_acts : (w : Inside) (now : RunSoFar) (e : Event) (n place clock : ℕ) (d : List ℕ) (q : Want) (f : Facts) (effects : Effects) → run_of w ≡ now → Keeps w → StandsAt now place n → f ≡ (standing now).facts n → clock ≡ (standing now).clocks n
    → e ≡ requesting n d q → IsProperEvent e → effects ≡ spelled (due_request f clock d q) → Acts w now (step_of e n effects) place (after_request f clock d q)
request_acts w now e n place clock d q f effects seen k at here time is proper made =
    subst (λ (x : Event). Acts w now (step_of x n effects) place (after_request f clock d q)) (sym is)
    (subst (λ (g : Facts). Acts w now (step_of (requesting n d q) n effects) place (after_request g clock d q)) (sym here)
    (subst (λ (t : ℕ). Acts w now (step_of (requesting n d q) n effects) place (after_request ((standing now).facts n) t d q)) (sym time)
    (subst (λ (x : Effects). Acts w now (step_of (requesting n d q) n x) place (after_request ((standing now).facts n) ((standing now).clocks n) d q))
    (sym (made ∙ ap₂ (λ (g : Facts) t. spelled (due_request g t d q)) here time))
    (request_there w now n place d q seen k at (subst IsProperEvent is proper)))))

-- the node of a request is declared
pub request_named : (now : RunSoFar) (e : Event) (n : ℕ) (d : List ℕ) (q : Want) → e ≡ requesting n d q → MayCome now e → Contains (declared_nodes now.header) n
request_named now e n d want.Get is comes = named_declared now e (event.Get n d) n is refl comes
request_named now e n d (want.Put v) is comes = named_declared now e (event.Put n d v) n is refl comes
request_named now e n d want.Del is comes = named_declared now e (event.Del n d) n is refl comes

-- the client knows no node
pub no_map_tells : (r : RunSoFar) (e : Event) (d : List ℕ) (q : Want) (p : ℕ) → e ≡ client_requesting d q → p ≡ partition_of d → IsProperEvent e → None ≡ node_for (standing r).tables p → TellsOnly r e (line.NoMap p ∷ [])
no_map_tells r e d q p is same proper none =
    let knows : KnowsNone r d q = knows_none r d q (ap (node_for (standing r).tables) (sym same) ∙ sym none) in
    subst (λ (x : Event). TellsOnly r x (line.NoMap p ∷ [])) (sym is) (record {
      due = ap (λ (n : ℕ). line.NoMap n ∷ []) same ∙ knows.due;
      only = knows.lands;
      proper = (client_ranges_of d q (subst IsProperEvent is proper)).proper;
    })

-- the effects with a line before them
abbrev pub after_line_of : Line → Effects → Effects
after_line_of l effects = record effects { lines = l ∷ effects.lines }

client_there : (w : Inside) (now : RunSoFar) (n place : ℕ) (d : List ℕ) (q : Want) → run_of w ≡ now → Keeps w → StandsAt now place n → IsProperEvent (client_requesting d q) → node_for (standing now).tables (partition_of d) ≡ Some n
    → Acts w now (step_of (client_requesting d q) n (after_line_of (line.Client n d) (spelled (due_request ((standing now).facts n) ((standing now).clocks n) d q)))) place (after_request ((standing now).facts n) ((standing now).clocks n) d q)
client_there w now n place d q seen k at proper named =
    let stands = stands_of w now seen k in
    let fits = fits_of w now seen k in
    let ranges : Ranges d q (client_requesting d q) = client_ranges_of d q proper in
    record {
      due = ap (λ (ls : List Line). line.Client n d ∷ ls) (written_lines w.net (standing now).network n None (due_request ((standing now).facts n) ((standing now).clocks n) d q) stands.network) ∙ client_request_lines now n d q named;
      stands = λ node net counted is same.
          client_stands now n d q w.ids w.nodes.items w.clocks.items w.net net w.client place node stands (distinct_of w now seen k) (id_at w now place n seen k at) counted ((known now fits.taken).me n) named
          ((are_read now w.net.sent w.ledger.journal.lines fits).request n d q ranges.digest ranges.want_fits) is same;
      proper = ranges.proper;
    }

pub client_acts : (w : Inside) (now : RunSoFar) (e : Event) (n place clock : ℕ) (d : List ℕ) (q : Want) (f : Facts) (effects : Effects) → run_of w ≡ now → Keeps w → StandsAt now place n → f ≡ (standing now).facts n → clock ≡ (standing now).clocks n
    → e ≡ client_requesting d q → IsProperEvent e → node_for (standing now).tables (partition_of d) ≡ Some n
    → effects ≡ after_line_of (line.Client n d) (spelled (due_request f clock d q)) → Acts w now (step_of e n effects) place (after_request f clock d q)
client_acts w now e n place clock d q f effects seen k at here time is proper named made =
    subst (λ (x : Event). Acts w now (step_of x n effects) place (after_request f clock d q)) (sym is)
    (subst (λ (g : Facts). Acts w now (step_of (client_requesting d q) n effects) place (after_request g clock d q)) (sym here)
    (subst (λ (t : ℕ). Acts w now (step_of (client_requesting d q) n effects) place (after_request ((standing now).facts n) t d q)) (sym time)
    (subst (λ (x : Effects). Acts w now (step_of (client_requesting d q) n x) place (after_request ((standing now).facts n) ((standing now).clocks n) d q))
    (sym (made ∙ ap₂ (λ (g : Facts) t. after_line_of (line.Client n d) (spelled (due_request g t d q))) here time))
    (client_there w now n place d q seen k at (subst IsProperEvent is proper) named))))

-- ---- a message arrives

-- the endpoint of an arriving message is no client, where it is declared
no_client : (w : Inside) (now : RunSoFar) (place n : ℕ) → run_of w ≡ now → Keeps w → StandsAt now place n → n ≡ client → ⊥
no_client w now place n seen k at = (known now (fits_of w now seen k).taken).client n (placed_declared now place n at)

not_down : (b : Bool) → (true && not b) ≡ false → b ≡ true
not_down true e = refl
not_down false e = cc

proper_delivery : (i : ℕ) (how : Delivery) → IsProperEvent (delivering i how)
proper_delivery i delivery_of.Whole = tt
proper_delivery i delivery_of.Repeated = tt
proper_delivery i (delivery_of.Cut size) = tt

-- the receiver runs
runs : (w : Inside) (now : RunSoFar) (place : ℕ) (p : Posting) → run_of w ≡ now → Keeps w → StandsAt now place p.to → is_blocked (standing now) p ≡ false → is_up (standing now) p.to ≡ true
runs w now place p seen k at free =
    let other : (p.to == client) ≡ false = different p.to (no_client w now place p.to seen k at) in
    not_down (is_up (standing now) p.to)
    (sym (ap (λ b. not b && not (is_up (standing now) p.to)) other) ∙ or_right (are_apart (standing now).network p.from p.to) (not (p.to == client) && not (is_up (standing now) p.to)) free)
  where
    different : (n : ℕ) → (n ≡ client → ⊥) → (n == client) ≡ false
    different n h = grind (arith, nat_tests, h)

-- what a node that takes the message has to know of it
pub record MayReceive (f : Facts) (from : ℕ) (m : Message) : Type 0 where
  pub up : f.up ≡ true
  pub proper : IsProper m
  pub sender : ComesFrom f from m
  pub counts : HaveNumbers f

pub may_receive : (w : Inside) (now : RunSoFar) (a : Arriving) (place : ℕ) (f : Facts) → run_of w ≡ now → Keeps w → Arrives now a → StandsAt now place a.to → f ≡ (standing now).facts a.to → MayReceive f a.from a.message
may_receive w now a place f seen k x at here =
    let fits = fits_of w now seen k in
    let declared : StandsAt now place x.posting.to = subst (λ (n : ℕ). StandsAt now place n) x.to_end at in
    let up : is_up (standing now) x.posting.to ≡ true = runs w now place x.posting seen k declared x.free in
    let facts : f ≡ (standing now).facts x.posting.to = here ∙ ap (standing now).facts x.to_end in
    subst (λ (g : Facts). MayReceive g a.from a.message) (sym facts) (subst (λ (n : ℕ). MayReceive ((standing now).facts x.posting.to) n a.message) (sym x.from) (record {
      up = up;
      proper = (what_is_read x.posting.bytes a.message x.read).0;
      sender = come now fits.taken x.number x.posting a.message (flying_sent (standing now).network x.number x.posting x.flying) x.read;
      counts = numbers now w.net.sent w.ledger.journal.lines fits x.posting.to;
    }))

-- the effects of a node that does nothing but go on
abbrev pub no_effects : Effects
no_effects = record { lines = []; sends = [] }

pub effects_none : (own : Effects) → own.lines ≡ [] → own.sends ≡ [] → own ≡ no_effects
effects_none own lines sends = ap₂ (λ (ls : List Line) (ss : List (ℕ × List ℕ)). record { lines = ls; sends = ss }) lines sends

abbrev arriving_step : Event → ℕ → Option ℕ → Line → Effects → EndStep
arriving_step e to landing l own = record { event = record { marker = record {}; value = e }; from = to; landing = landing; effects = record { lines = l ∷ own.lines; sends = own.sends } }

arrival_there : (w : Inside) (now : RunSoFar) (a : Arriving) (place : ℕ) → run_of w ≡ now → Keeps w → (x : Arrives now a) → StandsAt now place x.posting.to
    → Acts w now (arriving_step (delivering x.number x.how) x.posting.to (landing_of x.number x.how) (line_of_delivery x.number x.posting.from x.posting.to x.how)
    (spelled (due_message ((standing now).facts x.posting.to) ((standing now).clocks x.posting.to) x.posting.from a.message)))
    place (after_message ((standing now).facts x.posting.to) ((standing now).clocks x.posting.to) x.posting.from a.message)
unfolding next_lines
arrival_there w now a place seen k x at =
    let stands = stands_of w now seen k in
    let fits = fits_of w now seen k in
    let to : ℕ = x.posting.to in
    let other : to ≡ client → ⊥ = no_client w now place to seen k at in
    record {
      due =
          ap (λ (ls : List Line). line_of_delivery x.number x.posting.from to x.how ∷ ls)
          (written_lines w.net (standing now).network to (landing_of x.number x.how) (due_message ((standing now).facts to) ((standing now).clocks to) x.posting.from a.message) stands.network
          ∙ ap (λ net. written net to (due_message ((standing now).facts to) ((standing now).clocks to) x.posting.from a.message)) (sym (taken_lands (standing now).network x.number x.how)))
          ∙ sym (node_lines (standing now) x.number x.how x.posting a.message x.flying x.free x.whole x.read other);
      stands = λ node net counted is same.
          arrival_stands now x.number x.how x.posting a.message w.ids w.nodes.items w.clocks.items w.net net w.client place node x.flying x.free x.whole x.read other stands (distinct_of w now seen k)
          (id_at w now place to seen k at) counted ((known now fits.taken).me to)
          ((are_read now w.net.sent w.ledger.journal.lines fits).message x.number x.posting a.message (flying_sent (standing now).network x.number x.posting x.flying) x.read (runs w now place x.posting seen k at x.free))
          is same;
      proper = proper_delivery x.number x.how;
    }

pub arrival_acts : (w : Inside) (now : RunSoFar) (a : Arriving) (place clock : ℕ) (f : Facts) (own : Effects) → run_of w ≡ now → Keeps w → Arrives now a → StandsAt now place a.to → f ≡ (standing now).facts a.to → clock ≡ (standing now).clocks a.to
    → own ≡ spelled (due_message f clock a.from a.message) → Acts w now (arriving_step a.event.value a.to a.landing a.line own) place (after_message f clock a.from a.message)
arrival_acts w now a place clock f own seen k x at here time made =
    let to : ℕ = x.posting.to in
    let facts : f ≡ (standing now).facts to = here ∙ ap (standing now).facts x.to_end in
    let ticks : clock ≡ (standing now).clocks to = time ∙ ap (standing now).clocks x.to_end in
    let l : Line = line_of_delivery x.number x.posting.from to x.how in
    subst (λ (e : Event). Acts w now (arriving_step e a.to a.landing a.line own) place (after_message f clock a.from a.message)) (sym x.event)
    (subst (λ (n : ℕ). Acts w now (arriving_step (delivering x.number x.how) n a.landing a.line own) place (after_message f clock a.from a.message)) (sym x.to_end)
    (subst (λ (o : Option ℕ). Acts w now (arriving_step (delivering x.number x.how) to o a.line own) place (after_message f clock a.from a.message)) (sym x.landing)
    (subst (λ (y : Line). Acts w now (arriving_step (delivering x.number x.how) to (landing_of x.number x.how) y own) place (after_message f clock a.from a.message)) (sym x.line)
    (subst (λ (o : Effects). Acts w now (arriving_step (delivering x.number x.how) to (landing_of x.number x.how) l o) place (after_message f clock a.from a.message)) (sym made)
    (subst (λ (n : ℕ). Acts w now (arriving_step (delivering x.number x.how) to (landing_of x.number x.how) l (spelled (due_message f clock n a.message))) place (after_message f clock n a.message)) (sym x.from)
    (subst (λ (g : Facts). Acts w now (arriving_step (delivering x.number x.how) to (landing_of x.number x.how) l (spelled (due_message g clock x.posting.from a.message))) place (after_message g clock x.posting.from a.message)) (sym facts)
    (subst (λ (t : ℕ). Acts w now (arriving_step (delivering x.number x.how) to (landing_of x.number x.how) l (spelled (due_message ((standing now).facts to) t x.posting.from a.message))) place (after_message ((standing now).facts to) t x.posting.from a.message)) (sym ticks)
    (arrival_there w now a place seen k x (subst (λ (n : ℕ). StandsAt now place n) x.to_end at)))))))))

-- the message is in flight, where it leaves
pub arrival_flies : (w : Inside) (now : RunSoFar) (a : Arriving) → run_of w ≡ now → Keeps w → Arrives now a → IsInFlight w.net.flying a.landing
arrival_flies w now a seen k x = subst (IsInFlight w.net.flying) (sym x.landing) (leaves x.how)
  where
    there : (o : Option Flying) → Some x.posting ≡ option_map flying_posting o → is_some o ≡ true
    there None e = cc
    there (Some m) e = refl

    leaves : (how : Delivery) → IsInFlight w.net.flying (landing_of x.number how)
    leaves delivery_of.Whole = there (nets.flying_message x.number w.net.flying) (sym x.flying ∙ found w.net (standing now).network x.number (stands_of w now seen k).network)
    leaves delivery_of.Repeated = tt
    leaves (delivery_of.Cut size) = there (nets.flying_message x.number w.net.flying) (sym x.flying ∙ found w.net (standing now).network x.number (stands_of w now seen k).network)

-- ---- the client asks

-- the same of an endpoint that isn't a node
pub record Sends (w : Inside) (now : RunSoFar) (s : EndStep) : Type 0 where
  pub due : end_step_lines s w.net ≡ next_lines now s.event.value
  pub stands : (net : nets.NetworkState) → nets.AreNumbers w.net.sent (nets.flying_ids w.net.flying) → nets.IsSameNetwork (all_posted_in (landing_from w.net s.landing) s.from s.effects.sends) net
      → Stands (after_step (standing now) s.event.value) w.ids w.nodes.items w.clocks.items net w.client
  pub proper : IsProperEvent s.event.value

ask_there : (w : Inside) (now : RunSoFar) (n : ℕ) → run_of w ≡ now → Keeps w → Sends w now (step_of (event.Ask n) client (spelled (sends_only (to_one n message.MapAsk))))
ask_there w now n seen k =
    let stands = stands_of w now seen k in
    record {
      due = written_lines w.net (standing now).network client None (sends_only (to_one n message.MapAsk)) stands.network ∙ ask_lines now n;
      stands = λ net counted same. ask_stands now n w.ids w.nodes.items w.clocks.items w.net net w.client stands counted same;
      proper = tt;
    }

pub ask_sends : (w : Inside) (now : RunSoFar) (e : Event) (n : ℕ) (effects : Effects) → run_of w ≡ now → Keeps w → e ≡ event.Ask n → effects ≡ spelled (sends_only (to_one n message.MapAsk)) → Sends w now (step_of e client effects)
ask_sends w now e n effects seen k is made =
    subst (λ (x : Event). Sends w now (step_of x client effects)) (sym is)
    (subst (λ (x : Effects). Sends w now (step_of (event.Ask n) client x)) (sym made) (ask_there w now n seen k))

-- ---- what a step needs of the world

pub sent_of : (w : Inside) (now : RunSoFar) → run_of w ≡ now → Keeps w → w.net.sent ≤ line_limit
sent_of w now seen k = let fits = fits_of w now seen k in omega (arith, fits.sent, fits.within.lines_fit)

pub counts_of : (w : Inside) (now : RunSoFar) (n : ℕ) (f : Facts) → run_of w ≡ now → Keeps w → f ≡ (standing now).facts n → HaveNumbers f
counts_of w now n f seen k here = subst HaveNumbers (sym here) (numbers now w.net.sent w.ledger.journal.lines (fits_of w now seen k) n)

-- ---- what is kept after it

pub acts_keeps : (w v : Inside) (now : RunSoFar) (s : EndStep) (place : ℕ) (facts : Facts) (node : Planning) (r : Result (Unit {0}) StepFault) → run_of w ≡ now → Keeps w → Acts w now s place facts → MayCome now s.event.value
    → v.header.items ≡ w.header.items → v.ids ≡ w.ids → v.clocks.items ≡ w.clocks.items → v.client ≡ w.client → v.nodes.items ≡ set w.nodes.items place node
    → OnOk r (nets.AreNumbers w.net.sent (nets.flying_ids w.net.flying)) → OnOk r (node.now ≡ facts) → OnOk r (nets.IsSameNetwork (all_posted_in (landing_from w.net s.landing) s.from s.effects.sends) v.net)
    → OnOk r (Wrote w.ledger v.ledger (end_step_lines s w.net) s.event.value) → OnOk r (IsWithin (w.ledger.journal.lines ++ end_step_lines s w.net))
    → OnErr r (map (λ (x : Planning). x.now) v.nodes.items ≡ map (λ (x : Planning). x.now) w.nodes.items) → OnErr r (nets.IsSameNetwork w.net v.net) → OnErr r (IsSameLedger w.ledger v.ledger)
    → Keeps v
acts_keeps w v now s place facts node (Ok u) seen k acts comes header ids clocks client nodes counted is same wrote within node_still net_still ledger_still =
    keeps_after w v now s.event.value (end_step_lines s w.net) seen k header acts.due comes acts.proper wrote within
    (sent_few w.net v.net s.landing s.from w.net.sent (length (landing_from w.net s.landing).flying) s.effects.lines s.effects.sends same)
    (parts ids nodes clocks client (acts.stands node v.net counted is same))
  where
    parts : v.ids ≡ w.ids → v.nodes.items ≡ set w.nodes.items place node → v.clocks.items ≡ w.clocks.items → v.client ≡ w.client
        → Stands (after_step (standing now) s.event.value) w.ids (set w.nodes.items place node) w.clocks.items v.net w.client → Stands (after_step (standing now) s.event.value) v.ids v.nodes.items v.clocks.items v.net v.client
    parts a b c d h =
        subst (λ (xs : List ℕ). Stands (after_step (standing now) s.event.value) xs v.nodes.items v.clocks.items v.net v.client) (sym a)
        (subst (λ (xs : List Planning). Stands (after_step (standing now) s.event.value) w.ids xs v.clocks.items v.net v.client) (sym b)
        (subst (λ (xs : List ℕ). Stands (after_step (standing now) s.event.value) w.ids (set w.nodes.items place node) xs v.net v.client) (sym c)
        (subst (λ (es : List (Option Entry)). Stands (after_step (standing now) s.event.value) w.ids (set w.nodes.items place node) w.clocks.items v.net es) (sym d) h)))
acts_keeps w v now s place facts node (Err x) seen k acts comes header ids clocks client nodes counted is same wrote within node_still net_still ledger_still =
    keeps_same w v k header ids node_still clocks net_still client ledger_still

-- ---- a message in flight

-- it goes to the client, or to a declared node
pub receiver_if : (w : Inside) (now : RunSoFar) (i : ℕ) (o : Option (Bor Flying)) → run_of w ≡ now → Keeps w → option_copied o ≡ nets.flying_message i w.net.flying
    → IfSome o (λ m. (m.now.to ≡ client) ⊎ Contains (declared_nodes now.header) m.now.to)
receiver_if w now i None seen k is = tt
receiver_if w now i (Some m) seen k is =
    receivers now (fits_of w now seen k).taken i (flying_posting m.now)
    (flying_sent (standing now).network i (flying_posting m.now) (found w.net (standing now).network i (stands_of w now seen k).network ∙ ap (option_map flying_posting) (sym is)))

-- ---- the client's node

pub asked_if : (w : Inside) (now : RunSoFar) (p : ℕ) (o : Option ℕ) → run_of w ≡ now → Keeps w → p < partition_count → o ≡ node_for (standing now).tables p → IfSome o (Contains (declared_nodes now.header))
asked_if w now p None seen k within is = tt
asked_if w now p (Some n) seen k within is = asks now (fits_of w now seen k).taken p n within (sym is)

pub sends_takes : (w : Inside) (now : RunSoFar) (e : Event) (s : EndStep) (net : nets.NetworkState) (new : Ledger) (r : Result (Unit {0}) StepFault) → run_of w ≡ now → Keeps w → Sends w now s → s.event.value ≡ e
    → OnOk r (Wrote w.ledger new (end_step_lines s w.net) s.event.value) → OnOk r (IsWithin (w.ledger.journal.lines ++ end_step_lines s w.net)) → (IsErrOf r fault.RunTooLong → ¬ IsWithin (w.ledger.journal.lines ++ end_step_lines s w.net))
    → OnErr r (nets.IsSameNetwork w.net net × IsSameLedger w.ledger new)
    → TakesStep now (run_of_events w.header.items new.events.items) e r
sends_takes w now e s net new (Ok u) seen k h is wrote within long same =
    subst (λ (x : Event). TakesStep now (run_of_events w.header.items new.events.items) x (Ok u)) is (step_taken w now new s.event.value (end_step_lines s w.net) (Ok u) seen k h.due wrote within long tt)
sends_takes w now e s net new (Err x) seen k h is wrote within long same =
    subst (λ (y : Event). TakesStep now (run_of_events w.header.items new.events.items) y (Err x)) is (step_taken w now new s.event.value (end_step_lines s w.net) (Err x) seen k h.due tt tt long same.1)

pub sends_keeps : (w : Inside) (now : RunSoFar) (e : Event) (s : EndStep) (net : nets.NetworkState) (new : Ledger) (r : Result (Unit {0}) StepFault) → run_of w ≡ now → Keeps w → Sends w now s → s.event.value ≡ e → MayCome now e
    → OnOk r (nets.AreNumbers w.net.sent (nets.flying_ids w.net.flying)) → OnOk r (nets.IsSameNetwork (all_posted_in (landing_from w.net s.landing) s.from s.effects.sends) net)
    → OnOk r (Wrote w.ledger new (end_step_lines s w.net) s.event.value) → OnOk r (IsWithin (w.ledger.journal.lines ++ end_step_lines s w.net)) → OnErr r (nets.IsSameNetwork w.net net × IsSameLedger w.ledger new)
    → Keeps (record w { net = net; ledger = new })
sends_keeps w now e s net new (Ok u) seen k h is comes counted sent wrote within same =
    keeps_after w (record w { net = net; ledger = new }) now s.event.value (end_step_lines s w.net) seen k refl h.due (subst (MayCome now) (sym is) comes) h.proper wrote within
    (sent_few w.net net s.landing s.from w.net.sent (length (landing_from w.net s.landing).flying) s.effects.lines s.effects.sends sent)
    (h.stands net counted sent)
sends_keeps w now e s net new (Err x) seen k h is comes counted sent wrote within same =
    keeps_same w (record w { net = net; ledger = new }) k refl refl refl refl same.0 refl same.1

-- what the client sends as it asks
ask_effects : (n to : ℕ) (ls : List Line) (before sends : List (ℕ × List ℕ)) (bytes : List ℕ) → ls ≡ [] → before ≡ [] → sends ≡ before ++ (to, bytes) ∷ [] → to ≡ n → bytes ≡ spelling message.MapAsk
    → record { lines = ls; sends = sends } ≡ spelled (sends_only (to_one n message.MapAsk))
ask_effects n to ls before sends bytes none empty pushed same is =
    ap₂ (λ (l : List Line) (xs : List (ℕ × List ℕ)). record { lines = l; sends = xs }) none
    (pushed ∙ ap₂ (λ (xs : List (ℕ × List ℕ)) (x : ℕ × List ℕ). xs ++ x ∷ []) empty (ap₂ (λ (a : ℕ) (b : List ℕ). (a, b)) same is))

pub asks_so : (w : Inside) (now : RunSoFar) (e : Event) (n to : ℕ) (ls : List Line) (before sends : List (ℕ × List ℕ)) (bytes : List ℕ) (s : EndStep) → run_of w ≡ now → Keeps w → e ≡ event.Ask n
    → ls ≡ [] → before ≡ [] → sends ≡ before ++ (to, bytes) ∷ [] → to ≡ n → bytes ≡ spelling message.MapAsk → s ≡ step_of e client (record { lines = ls; sends = sends }) → Sends w now s
asks_so w now e n to ls before sends bytes s seen k is none empty pushed same spelt made =
    subst (λ (x : EndStep). Sends w now x) (sym made) (ask_sends w now e n (record { lines = ls; sends = sends }) seen k is (ask_effects n to ls before sends bytes none empty pushed same spelt))

-- ---- the step of a node, as it was taken

-- the node's step of that event, as a caller sees it
pub acts_returns : (w : Inside) (now : RunSoFar) (e : Event) (s : EndStep) (place : ℕ) (facts : Facts) (old node : Planning) (net : nets.NetworkState) (new : Ledger) (r : Result (Unit {0}) StepFault) → run_of w ≡ now → Keeps w → Acts w now s place facts → s.event.value ≡ e
    → OnOk r (Wrote w.ledger new (end_step_lines s w.net) s.event.value) → OnOk r (IsWithin (w.ledger.journal.lines ++ end_step_lines s w.net)) → (IsErrOf r fault.RunTooLong → ¬ IsWithin (w.ledger.journal.lines ++ end_step_lines s w.net))
    → OnErr r ((node ≡ old) × nets.IsSameNetwork w.net net × IsSameLedger w.ledger new) → TakesStep now (run_of_events w.header.items new.events.items) e r
acts_returns w now e s place facts old node net new (Ok u) seen k acts is wrote within long same =
    subst (λ (x : Event). TakesStep now (run_of_events w.header.items new.events.items) x (Ok u)) is (acts_takes w now s place facts new (Ok u) seen k acts wrote within long tt)
acts_returns w now e s place facts old node net new (Err x) seen k acts is wrote within long same =
    subst (λ (y : Event). TakesStep now (run_of_events w.header.items new.events.items) y (Err x)) is (acts_takes w now s place facts new (Err x) seen k acts tt tt long same.2)

-- and what is kept of it, where the node had planned to know those facts
pub acts_kept : (w v : Inside) (now : RunSoFar) (e : Event) (s : EndStep) (place : ℕ) (facts : Facts) (first planned old node : Planning) (r : Result (Unit {0}) StepFault) → run_of w ≡ now → Keeps w → Acts w now s place facts → s.event.value ≡ e → MayCome now e
    → v.header.items ≡ w.header.items → v.ids ≡ w.ids → v.clocks.items ≡ w.clocks.items → v.client ≡ w.client → v.nodes.items ≡ set (set w.nodes.items place planned) place node
    → place < length w.nodes.items → first ≡ get_or w.nodes.items place first → planned ≡ planning first.now facts → old ≡ get_or (set w.nodes.items place planned) place old
    → OnOk r (nets.AreNumbers w.net.sent (nets.flying_ids w.net.flying)) → OnOk r (IfSome old.next (λ f. node ≡ unplanned f)) → OnOk r (nets.IsSameNetwork (all_posted_in (landing_from w.net s.landing) s.from s.effects.sends) v.net)
    → OnOk r (Wrote w.ledger v.ledger (end_step_lines s w.net) s.event.value) → OnOk r (IsWithin (w.ledger.journal.lines ++ end_step_lines s w.net))
    → OnErr r ((node ≡ old) × nets.IsSameNetwork w.net v.net × IsSameLedger w.ledger v.ledger) → Keeps v
acts_kept w v now e s place facts first planned old node (Ok u) seen k acts is comes header ids clocks client_same nodes within stood plan read counted taken sent wrote fits same =
    let known : old ≡ planning first.now facts = at_set w.nodes.items place planned old within read ∙ plan in
    let new : node ≡ unplanned facts = subst (λ (p : Planning). IfSome p.next (λ f. node ≡ unplanned f)) known taken in
    acts_keeps w v now s place facts node (Ok u) seen k acts (subst (MayCome now) (sym is) comes) header ids clocks client_same (nodes ∙ set_twice w.nodes.items place planned node)
    counted (ap (λ (p : Planning). p.now) new) sent wrote fits tt tt tt
acts_kept w v now e s place facts first planned old node (Err x) seen k acts is comes header ids clocks client_same nodes within stood plan read counted taken sent wrote fits same =
    let known : old ≡ planning first.now facts = at_set w.nodes.items place planned old within read ∙ plan in
    let still_so : node.now ≡ (get_or w.nodes.items place first).now = ap (λ (p : Planning). p.now) (same.0 ∙ known) ∙ ap (λ (p : Planning). p.now) stood in
    keeps_same w v k header ids
    (ap (map (λ (p : Planning). p.now)) (nodes ∙ set_twice w.nodes.items place planned node) ∙ map-set_same (λ (p : Planning). p.now) w.nodes.items place node first still_so)
    clocks same.1 client_same same.2

-- a node knows what it knew, and all else is as it was
pub knows_as_before : (w v : Inside) (place : ℕ) (old node : Planning) → Keeps w → v.header.items ≡ w.header.items → v.ids ≡ w.ids → v.clocks.items ≡ w.clocks.items → v.net ≡ w.net → v.client ≡ w.client → v.ledger ≡ w.ledger
    → v.nodes.items ≡ set w.nodes.items place node → old ≡ get_or w.nodes.items place old → node.now ≡ old.now → Keeps v
knows_as_before w v place old node k header ids clocks net client ledger nodes read is =
    keeps_same w v k header ids
    (ap (map (λ (p : Planning). p.now)) nodes ∙ map-set_same (λ (p : Planning). p.now) w.nodes.items place node old (is ∙ ap (λ (p : Planning). p.now) read))
    clocks (subst (λ (n : nets.NetworkState). nets.IsSameNetwork w.net n) (sym net) (record { flying = refl; sent = refl; groups = refl })) client
    (subst (λ (l : Ledger). IsSameLedger w.ledger l) (sym ledger) (record { lines = refl; events = refl }))

-- so does one that gave its plan up
pub gave_up : (w v : Inside) (place : ℕ) (old node : Planning) → Keeps w → v.header.items ≡ w.header.items → v.ids ≡ w.ids → v.clocks.items ≡ w.clocks.items → v.net ≡ w.net → v.client ≡ w.client → v.ledger ≡ w.ledger
    → v.nodes.items ≡ set w.nodes.items place node → old ≡ get_or w.nodes.items place old → node ≡ unplanned old.now → Keeps v
gave_up w v place old node k header ids clocks net client ledger nodes read is =
    knows_as_before w v place old node k header ids clocks net client ledger nodes read (ap (λ (p : Planning). p.now) is)
