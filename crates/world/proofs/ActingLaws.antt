-- Steps of an endpoint that sends messages: its lines, and the parts of the world after it.
use Rattle.std.proofs.Common.{◌≡◌, ◌≢◌, ℕ, zero, suc, Bool, true, false, List, [], ◌∷◌, ◌++◌, AllPairs, length, map, Option, Some, None, refl, sym, ap, ap₂, subst, ◌∙◌, set}
use Rattle.std.specs.Prelude.{slice_get, is_some, option_and_then, if◌then◌else◌}
use Rattle.std.proofs.lemmas.List.{length-map}
use Rattle.conflict_order.specs.declared.want.Want.{Want}
use Rattle.conflict_order.specs.declared.want.Want.TheVariants as want
use Rattle.cluster_types.specs.Partitions.{partition_count, partition_of}
use Rattle.wire_messages.specs.declared.message.Message.{Message}
use Rattle.wire_messages.specs.declared.message.Message.TheVariants as message
use Rattle.wire_messages.specs.Spelling.{spelling}
use Rattle.wire_messages.proofs.DecodingLaws.{read_back}
use Rattle.journal_lines.specs.declared.line.Line.{Line}
use Rattle.journal_lines.specs.declared.line.Line.TheVariants as line
use Rattle.net_script.specs.Network as nets
use Rattle.net_script.specs.Network.{AreNumbers, flying_ids}
use Rattle.client_map.specs.declared.client_map.Entry.{Entry}
use Rattle.node_rules.specs.Client.{node_for}
use Rattle.node_rules.specs.Effects.{Effects, sends_only, to_one, lines_only}
use Rattle.node_rules.specs.Facts.{Facts}
use Rattle.node_rules.specs.Messages.{due_message_of, client}
use Rattle.node_rules.specs.Notes.{all_sent, noted, reached}
use Rattle.node_rules.specs.Requests.{due_request, due_stop, due_start}
use Rattle.node_rules.specs.Steps.{Planning, after_message, after_request, after_start, after_stop, after_tick}
use Rattle.node_rules.specs.Tick.{due_tick}
use Rattle.node_steps.specs.Spelled.{spelled_sends}
use Rattle.request_rules.specs.LineNotes.{all_requests_noted}
use Rattle.request_rules.specs.Replies.{want_in_message}
use Rattle.cluster_rules.specs.declared.event.Event.{Event}
use Rattle.cluster_rules.specs.declared.event.Event.TheVariants as event
use Rattle.cluster_rules.specs.DueEvents.{due_at_named, sent_lines, written, is_blocked}
use Rattle.cluster_rules.specs.Marks.{Writes, after_all, after_line, event_begun, arrival_under, came_to_node, taken_by, want_in}
use Rattle.journal_readings.specs.Messages.{Posting}
use Rattle.cluster_rules.specs.Network.{Network, flying_at}
use Rattle.cluster_rules.specs.NodeSteps.{AreOf, AreRead, IsNumbered, Moves, all_sent_in, after_step}
use Rattle.cluster_rules.specs.World.{World}
use Rattle.cluster_rules.proofs.NodeLaws.{node_step}
use Rattle.cluster_rules.proofs.OwnLines.{message_own, request_own, stop_own, tick_own}
use Rattle.cluster_rules.proofs.RequestLaws.{want_of_arrival, want_unread}
use Rattle.world.specs.declared.delivery.Delivery.{Delivery}
use Rattle.world.specs.declared.delivery.Delivery.TheVariants as delivery_of
use Rattle.world.specs.Arriving.{delivering, is_short_of, landed_if, landing_of, line_of_delivery}
use Rattle.world.specs.Sent.{all_posted_in, landing_from, posted_lines}
use Rattle.world.specs.Stands.{Stands, IsNetwork}
use Rattle.world.specs.Steps.{RunSoFar, standing, next_lines, requesting, client_requesting}
use Rattle.world.proofs.ArrivalLaws.{at_node, flying_sent, node_lines}
use Rattle.world.proofs.EventLaws.{at_itself, at_another, landed_network}
use Rattle.world.proofs.NetLaws.{all_sent_on, numbered, numbers_left, posted_lines_are, same_network}
use Rattle.world.proofs.Places.{set_image}
use Rattle.node_rules.specs.Entering.{closing}

-- ---- the lines

-- how many are in flight
in_flight : (net : nets.NetworkState) (n : Network) → IsNetwork net n → length net.flying ≡ length n.flying
in_flight net n h = sym (length-map net.flying (λ (e : ℕ × Rattle.net_script.specs.declared.net.Flying.Flying). e.0)) ∙ ap length h.numbers

-- an endpoint's lines and those of its messages are what is written of its effects, once a message has left
pub written_lines : (net : nets.NetworkState) (n : Network) (from : ℕ) (landing : Option ℕ) (e : Effects) → IsNetwork net n
    → e.lines ++ posted_lines from net.sent (length (landing_from net landing).flying) (spelled_sends e.sends) ≡ written (landed_if n landing) from e
written_lines net n from landing e h =
    let left : IsNetwork (landing_from net landing) (landed_if n landing) = landed_network net (landing_from net landing) n landing h (record { flying = refl; sent = refl; groups = refl }) in
    let sent : net.sent ≡ length (landed_if n landing).sent = sent_still landing ∙ left.sent in
    ap (λ ls. e.lines ++ ls)
    (posted_lines_are from net.sent (length (landing_from net landing).flying) e.sends
    ∙ ap₂ (λ a b. sent_lines from a b e.sends) sent (in_flight (landing_from net landing) (landed_if n landing) left))
  where
    sent_still : (landing : Option ℕ) → net.sent ≡ (landing_from net landing).sent
    sent_still None = refl
    sent_still (Some i) = refl

-- ---- the parts

-- one node's facts have changed, and the network
pub stands_moved : (w v : World) (n : ℕ) (new : Facts) (net : Network) (ids : List ℕ) (nodes : List Planning) (clocks : List ℕ) (old now : nets.NetworkState) (entries : List (Option Entry)) (place : ℕ) (node : Planning)
    → Stands w ids nodes clocks old entries → AllPairs (λ x y. x ≢ y) ids → slice_get ids place ≡ Some n → node.now ≡ new
    → v.nodes ≡ w.nodes → v.clocks ≡ w.clocks → v.tables ≡ w.tables → v.facts n ≡ new → ((m : ℕ) → (n ≡ m → ⊥) → v.facts m ≡ w.facts m) → IsNetwork now v.network
    → Stands v ids (set nodes place node) clocks now entries
stands_moved w v n new net ids nodes clocks old now entries place node h distinct there is same_nodes same_clocks same_tables here elsewhere network = record {
  declared = h.declared ∙ ap (λ (ns : List ℕ). Rattle.partition_lists.specs.Lists.in_order Rattle.std.specs.Prelude.nat_lt ns) (sym same_nodes);
  facts = set_image (λ (x : Planning). x.now) w.facts v.facts n ids nodes place node distinct there elsewhere h.facts (is ∙ sym here);
  times = h.times ∙ ap (λ (f : ℕ → ℕ). map f ids) (sym same_clocks);
  network = network;
  tables = subst (λ (ts : Rattle.node_rules.specs.Client.Tables). Rattle.client_map.specs.Entries.Holds ts entries) (sym same_tables) h.tables;
}

-- what the node sent
sent_network : (net now : nets.NetworkState) (n : Network) (from : ℕ) (landing : Option ℕ) (sends : List (ℕ × Message)) → IsNetwork net n → AreNumbers net.sent (flying_ids net.flying)
    → nets.IsSameNetwork (all_posted_in (landing_from net landing) from (spelled_sends sends)) now → IsNetwork now (all_sent_in (landed_if n landing) from sends)
sent_network net now n from landing sends h numbers same =
    same_network (all_posted_in (landing_from net landing) from (spelled_sends sends)) now (all_sent_in (landed_if n landing) from sends) same
    (all_sent_on from sends (landing_from net landing) (landed_if n landing)
    (landed_network net (landing_from net landing) n landing h (record { flying = refl; sent = refl; groups = refl }))
    (numbers_left net landing numbers))

-- a node's own event: nothing lands
pub stands_acted : (r : RunSoFar) (e : Event) (n : ℕ) (effects : Effects) (new : Facts) (ids : List ℕ) (nodes : List Planning) (clocks : List ℕ) (net now : nets.NetworkState) (entries : List (Option Entry)) (place : ℕ) (node : Planning)
    → Stands (standing r) ids nodes clocks net entries → AllPairs (λ x y. x ≢ y) ids → slice_get ids place ≡ Some n → AreNumbers net.sent (flying_ids net.flying)
    → (event_begun (standing r) e).network ≡ (standing r).network → after_step (standing r) e ≡ after_all (event_begun (standing r) e) (map Writes (written (standing r).network n effects))
    → AreOf n effects.lines → AreRead effects.sends
    → all_sent (noted (event_begun (standing r) e).want ((standing r).facts n) effects.lines) effects.sends ≡ new → node.now ≡ new
    → nets.IsSameNetwork (all_posted_in net n (spelled_sends effects.sends)) now
    → Stands (after_step (standing r) e) ids (set nodes place node) clocks now entries
stands_acted r e n effects new ids nodes clocks net now entries place node h distinct there numbers still steps own read made is same =
    let w : World = standing r in
    let u : World = event_begun w e in
    let lines : written w.network n effects ≡ written u.network n effects = ap (λ (x : Network). written x n effects) (sym still) in
    let moves : Moves n (all_sent (noted u.want (u.facts n) effects.lines) effects.sends) (all_sent_in u.network n effects.sends) (all_requests_noted u.asker u.want u.requests effects.lines) u (after_all u (map Writes (written u.network n effects))) =
    node_step u n effects own read (subst IsNumbered (sym still) (numbered net w.network h.network numbers)) in
    subst (λ (v : World). Stands v ids (set nodes place node) clocks now entries) (sym (steps ∙ ap (λ (ls : List Line). after_all u (map Writes ls)) lines))
    (stands_moved w (after_all u (map Writes (written u.network n effects))) n new u.network ids nodes clocks net now entries place node h distinct there is
    moves.nodes moves.clocks moves.tables (moves.here ∙ made) moves.elsewhere
    (subst (λ (x : Network). IsNetwork now x) (sym (moves.network ∙ ap (λ (x : Network). all_sent_in x n effects.sends) still))
    (sent_network net now w.network n None effects.sends h.network numbers same)))

-- ---- a node's own events

pub tick_stands : (r : RunSoFar) (n : ℕ) (ids : List ℕ) (nodes : List Planning) (clocks : List ℕ) (net now : nets.NetworkState) (entries : List (Option Entry)) (place : ℕ) (node : Planning)
    → Stands (standing r) ids nodes clocks net entries → AllPairs (λ x y. x ≢ y) ids → slice_get ids place ≡ Some n → AreNumbers net.sent (flying_ids net.flying) → ((standing r).facts n).me ≡ n
    → AreRead (due_tick ((standing r).facts n)).sends → node.now ≡ after_tick ((standing r).facts n) → nets.IsSameNetwork (all_posted_in net n (spelled_sends (due_tick ((standing r).facts n)).sends)) now
    → Stands (after_step (standing r) (event.Tick n)) ids (set nodes place node) clocks now entries
tick_stands r n ids nodes clocks net now entries place node h distinct there numbers me read is same =
    stands_acted r (event.Tick n) n (due_tick ((standing r).facts n)) (after_tick ((standing r).facts n)) ids nodes clocks net now entries place node h distinct there numbers refl refl
    (subst (λ m. AreOf m (due_tick ((standing r).facts n)).lines) me (tick_own partition_count ((standing r).facts n))) read refl is same

pub stop_stands : (r : RunSoFar) (n : ℕ) (ids : List ℕ) (nodes : List Planning) (clocks : List ℕ) (net now : nets.NetworkState) (entries : List (Option Entry)) (place : ℕ) (node : Planning)
    → Stands (standing r) ids nodes clocks net entries → AllPairs (λ x y. x ≢ y) ids → slice_get ids place ≡ Some n → AreNumbers net.sent (flying_ids net.flying) → ((standing r).facts n).me ≡ n
    → node.now ≡ after_stop ((standing r).facts n) → nets.IsSameNetwork (all_posted_in net n (spelled_sends (due_stop ((standing r).facts n)).sends)) now
    → Stands (after_step (standing r) (event.Stop n)) ids (set nodes place node) clocks now entries
stop_stands r n ids nodes clocks net now entries place node h distinct there numbers me is same =
    stands_acted r (event.Stop n) n (due_stop ((standing r).facts n)) (after_stop ((standing r).facts n)) ids nodes clocks net now entries place node h distinct there numbers refl refl
    (subst (λ m. AreOf m (due_stop ((standing r).facts n)).lines) me (stop_own ((standing r).facts n))) (none_sent ((standing r).facts n) ((standing r).facts n).up) refl is same
  where
    none_sent : (f : Facts) (b : Bool) → AreRead (if b then lines_only (closing f ++ line.Stop f.me ∷ []) else lines_only (line.Down f.me ∷ [])).sends
    none_sent f true = tt
    none_sent f false = tt

-- a start: the network stays
pub start_stands : (r : RunSoFar) (n : ℕ) (ids : List ℕ) (nodes : List Planning) (clocks : List ℕ) (net : nets.NetworkState) (entries : List (Option Entry)) (place : ℕ) (node : Planning)
    → Stands (standing r) ids nodes clocks net entries → AllPairs (λ x y. x ≢ y) ids → slice_get ids place ≡ Some n → ((standing r).facts n).up ≡ false → ((standing r).facts n).me ≡ n
    → node.now ≡ after_start ((standing r).facts n) → Stands (after_step (standing r) (event.Start n)) ids (set nodes place node) clocks net entries
start_stands r n ids nodes clocks net entries place node h distinct there down me is =
    subst (λ (v : World). Stands v ids (set nodes place node) clocks net entries)
    (sym (ap (λ b. after_all (event_begun (standing r) (event.Start n)) (map Writes (written (standing r).network n (if b then lines_only (line.Up ((standing r).facts n).me ∷ []) else lines_only (line.Start ((standing r).facts n).me ∷ []))))) down
    ∙ ap (λ m. after_line (event_begun (standing r) (event.Start n)) (line.Start m)) me))
    (stands_moved (standing r) (after_line (event_begun (standing r) (event.Start n)) (line.Start n)) n (after_start ((standing r).facts n)) (standing r).network ids nodes clocks net net entries place node h distinct there is refl refl refl
    (at_itself (standing r).facts n _ ∙ sym (ap (λ b. Rattle.node_rules.specs.Steps.facts_after None ((standing r).facts n) (if b then lines_only (line.Up ((standing r).facts n).me ∷ []) else lines_only (line.Start ((standing r).facts n).me ∷ []))) down))
    (at_another (standing r).facts n _) h.network)

pub start_lines : (r : RunSoFar) (n : ℕ) → ((standing r).facts n).me ≡ n → ((standing r).facts n).up ≡ false → line.Start n ∷ [] ≡ next_lines r (event.Start n)
unfolding next_lines
start_lines r n me down =
    ap (λ m. line.Start m ∷ []) (sym me) ∙ sym (ap (λ b. written (standing r).network n (if b then lines_only (line.Up ((standing r).facts n).me ∷ []) else lines_only (line.Start ((standing r).facts n).me ∷ []))) down)

pub request_stands : (r : RunSoFar) (n : ℕ) (d : List ℕ) (q : Want) (ids : List ℕ) (nodes : List Planning) (clocks : List ℕ) (net now : nets.NetworkState) (entries : List (Option Entry)) (place : ℕ) (node : Planning)
    → Stands (standing r) ids nodes clocks net entries → AllPairs (λ x y. x ≢ y) ids → slice_get ids place ≡ Some n → AreNumbers net.sent (flying_ids net.flying) → ((standing r).facts n).me ≡ n
    → AreRead (due_request ((standing r).facts n) ((standing r).clocks n) d q).sends → node.now ≡ after_request ((standing r).facts n) ((standing r).clocks n) d q
    → nets.IsSameNetwork (all_posted_in net n (spelled_sends (due_request ((standing r).facts n) ((standing r).clocks n) d q).sends)) now
    → Stands (after_step (standing r) (requesting n d q)) ids (set nodes place node) clocks now entries
request_stands r n d q ids nodes clocks net now entries place node h distinct there numbers me read is same = go q read is same
  where
    own : (q : Want) → AreOf n (due_request ((standing r).facts n) ((standing r).clocks n) d q).lines
    own q = subst (λ m. AreOf m (due_request ((standing r).facts n) ((standing r).clocks n) d q).lines) me (request_own ((standing r).facts n) ((standing r).clocks n) d q)

    go : (q : Want) → AreRead (due_request ((standing r).facts n) ((standing r).clocks n) d q).sends → node.now ≡ after_request ((standing r).facts n) ((standing r).clocks n) d q
        → nets.IsSameNetwork (all_posted_in net n (spelled_sends (due_request ((standing r).facts n) ((standing r).clocks n) d q).sends)) now
        → Stands (after_step (standing r) (requesting n d q)) ids (set nodes place node) clocks now entries
    go want.Get read is same =
        stands_acted r (event.Get n d) n (due_request ((standing r).facts n) ((standing r).clocks n) d want.Get) (after_request ((standing r).facts n) ((standing r).clocks n) d want.Get) ids nodes clocks net now entries place node
        h distinct there numbers refl refl (own want.Get) read refl is same
    go (want.Put v) read is same =
        stands_acted r (event.Put n d v) n (due_request ((standing r).facts n) ((standing r).clocks n) d (want.Put v)) (after_request ((standing r).facts n) ((standing r).clocks n) d (want.Put v)) ids nodes clocks net now entries place node
        h distinct there numbers refl refl (own (want.Put v)) read refl is same
    go want.Del read is same =
        stands_acted r (event.Del n d) n (due_request ((standing r).facts n) ((standing r).clocks n) d want.Del) (after_request ((standing r).facts n) ((standing r).clocks n) d want.Del) ids nodes clocks net now entries place node
        h distinct there numbers refl refl (own want.Del) read refl is same

pub client_stands : (r : RunSoFar) (n : ℕ) (d : List ℕ) (q : Want) (ids : List ℕ) (nodes : List Planning) (clocks : List ℕ) (net now : nets.NetworkState) (entries : List (Option Entry)) (place : ℕ) (node : Planning)
    → Stands (standing r) ids nodes clocks net entries → AllPairs (λ x y. x ≢ y) ids → slice_get ids place ≡ Some n → AreNumbers net.sent (flying_ids net.flying) → ((standing r).facts n).me ≡ n
    → node_for (standing r).tables (partition_of d) ≡ Some n
    → AreRead (due_request ((standing r).facts n) ((standing r).clocks n) d q).sends → node.now ≡ after_request ((standing r).facts n) ((standing r).clocks n) d q
    → nets.IsSameNetwork (all_posted_in net n (spelled_sends (due_request ((standing r).facts n) ((standing r).clocks n) d q).sends)) now
    → Stands (after_step (standing r) (client_requesting d q)) ids (set nodes place node) clocks now entries
client_stands r n d q ids nodes clocks net now entries place node h distinct there numbers me named read is same = go q read is same
  where
    own : (q : Want) → AreOf n (due_request ((standing r).facts n) ((standing r).clocks n) d q).lines
    own q = subst (λ m. AreOf m (due_request ((standing r).facts n) ((standing r).clocks n) d q).lines) me (request_own ((standing r).facts n) ((standing r).clocks n) d q)

    go : (q : Want) → AreRead (due_request ((standing r).facts n) ((standing r).clocks n) d q).sends → node.now ≡ after_request ((standing r).facts n) ((standing r).clocks n) d q
        → nets.IsSameNetwork (all_posted_in net n (spelled_sends (due_request ((standing r).facts n) ((standing r).clocks n) d q).sends)) now
        → Stands (after_step (standing r) (client_requesting d q)) ids (set nodes place node) clocks now entries
    go want.Get read is same =
        stands_acted r (event.ClientGet d) n (due_request ((standing r).facts n) ((standing r).clocks n) d want.Get) (after_request ((standing r).facts n) ((standing r).clocks n) d want.Get) ids nodes clocks net now entries place node
        h distinct there numbers refl (ap (λ o. after_all (event_begun (standing r) (event.ClientGet d)) (map Writes (due_at_named (standing r) d want.Get o))) named) (own want.Get) read refl is same
    go (want.Put v) read is same =
        stands_acted r (event.ClientPut d v) n (due_request ((standing r).facts n) ((standing r).clocks n) d (want.Put v)) (after_request ((standing r).facts n) ((standing r).clocks n) d (want.Put v)) ids nodes clocks net now entries place node
        h distinct there numbers refl (ap (λ o. after_all (event_begun (standing r) (event.ClientPut d v)) (map Writes (due_at_named (standing r) d (want.Put v) o))) named) (own (want.Put v)) read refl is same
    go want.Del read is same =
        stands_acted r (event.ClientDel d) n (due_request ((standing r).facts n) ((standing r).clocks n) d want.Del) (after_request ((standing r).facts n) ((standing r).clocks n) d want.Del) ids nodes clocks net now entries place node
        h distinct there numbers refl (ap (λ o. after_all (event_begun (standing r) (event.ClientDel d)) (map Writes (due_at_named (standing r) d want.Del o))) named) (own want.Del) read refl is same

-- the lines of requests
pub request_lines : (r : RunSoFar) (n : ℕ) (d : List ℕ) (q : Want) → written (standing r).network n (due_request ((standing r).facts n) ((standing r).clocks n) d q) ≡ next_lines r (requesting n d q)
unfolding next_lines
request_lines r n d want.Get = refl
request_lines r n d (want.Put v) = refl
request_lines r n d want.Del = refl

pub client_request_lines : (r : RunSoFar) (n : ℕ) (d : List ℕ) (q : Want) → node_for (standing r).tables (partition_of d) ≡ Some n
    → line.Client n d ∷ written (standing r).network n (due_request ((standing r).facts n) ((standing r).clocks n) d q) ≡ next_lines r (client_requesting d q)
unfolding next_lines
client_request_lines r n d want.Get named = sym (ap (due_at_named (standing r) d want.Get) named)
client_request_lines r n d (want.Put v) named = sym (ap (due_at_named (standing r) d (want.Put v)) named)
client_request_lines r n d want.Del named = sym (ap (due_at_named (standing r) d want.Del) named)

-- the client knows no node
pub record KnowsNone (r : RunSoFar) (d : List ℕ) (q : Want) : Type 0 where
  pub due : line.NoMap (partition_of d) ∷ [] ≡ next_lines r (client_requesting d q)
  pub lands : Rattle.world.specs.Arriving.OnlyLands r (client_requesting d q) None

pub knows_none : (r : RunSoFar) (d : List ℕ) (q : Want) → node_for (standing r).tables (partition_of d) ≡ None → KnowsNone r d q
unfolding next_lines
knows_none r d want.Get none = record { due = sym (ap (due_at_named (standing r) d want.Get) none); lands = record { lands = refl; only = ap (λ o. after_all (event_begun (standing r) (event.ClientGet d)) (map Writes (due_at_named (standing r) d want.Get o))) none } }
knows_none r d (want.Put v) none = record { due = sym (ap (due_at_named (standing r) d (want.Put v)) none); lands = record { lands = refl; only = ap (λ o. after_all (event_begun (standing r) (event.ClientPut d v)) (map Writes (due_at_named (standing r) d (want.Put v) o))) none } }
knows_none r d want.Del none = record { due = sym (ap (due_at_named (standing r) d want.Del) none); lands = record { lands = refl; only = ap (λ o. after_all (event_begun (standing r) (event.ClientDel d)) (map Writes (due_at_named (standing r) d want.Del o))) none } }

-- ---- the client asks

asked : ℕ → Effects
asked n = sends_only (to_one n message.MapAsk)

pub ask_stands : (r : RunSoFar) (n : ℕ) (ids : List ℕ) (nodes : List Planning) (clocks : List ℕ) (net now : nets.NetworkState) (entries : List (Option Entry))
    → Stands (standing r) ids nodes clocks net entries → AreNumbers net.sent (flying_ids net.flying) → nets.IsSameNetwork (all_posted_in net client ((n, spelling message.MapAsk) ∷ [])) now
    → Stands (after_step (standing r) (event.Ask n)) ids nodes clocks now entries
ask_stands r n ids nodes clocks net now entries h numbers same =
    let w : World = standing r in
    let moves : Moves client (w.facts client) (all_sent_in w.network client (to_one n message.MapAsk)) w.requests (event_begun w (event.Ask n)) (after_step w (event.Ask n)) =
    node_step (event_begun w (event.Ask n)) client (sends_only (to_one n message.MapAsk)) tt (read_back message.MapAsk tt, tt) (numbered net w.network h.network numbers) in
    record {
      declared = h.declared ∙ ap (λ (ns : List ℕ). Rattle.partition_lists.specs.Lists.in_order Rattle.std.specs.Prelude.nat_lt ns) (sym moves.nodes);
      facts = h.facts ∙ all_same (after_step w (event.Ask n)).facts w.facts ids (λ m. same_at (after_step w (event.Ask n)) m moves.here moves.elsewhere);
      times = h.times ∙ ap (λ (f : ℕ → ℕ). map f ids) (sym moves.clocks);
      network = subst (λ (x : Network). IsNetwork now x) (sym moves.network) (sent_network net now w.network client None (to_one n message.MapAsk) h.network numbers same);
      tables = subst (λ (ts : Rattle.node_rules.specs.Client.Tables). Rattle.client_map.specs.Entries.Holds ts entries) (sym moves.tables) h.tables;
    }
  where
    all_same : (f g : ℕ → Facts) (ids : List ℕ) → ((m : ℕ) → f m ≡ g m) → map g ids ≡ map f ids
    all_same f g [] e = refl
    all_same f g (m ∷ ids) e = ap₂ (λ (x : Facts) xs. x ∷ xs) (sym (e m)) (all_same f g ids e)

    same_at : (v : World) (m : ℕ) → v.facts client ≡ (standing r).facts client → ((k : ℕ) → (client ≡ k → ⊥) → v.facts k ≡ (standing r).facts k) → v.facts m ≡ (standing r).facts m
    same_at v zero here elsewhere = here
    same_at v (suc m) here elsewhere = elsewhere (suc m) (λ e. cc)

pub ask_lines : (r : RunSoFar) (n : ℕ) → written (standing r).network client (sends_only (to_one n message.MapAsk)) ≡ next_lines r (event.Ask n)
unfolding next_lines
ask_lines r n = refl

-- ---- a message arrives

pub arrival_stands : (r : RunSoFar) (i : ℕ) (how : Delivery) (p : Posting) (m : Message) (ids : List ℕ) (nodes : List Planning) (clocks : List ℕ) (net now : nets.NetworkState) (entries : List (Option Entry)) (place : ℕ) (node : Planning)
    → flying_at (standing r).network i ≡ Some p → is_blocked (standing r) p ≡ false → is_short_of (length p.bytes) how ≡ false → Rattle.wire_messages.specs.Decoding.message_of p.bytes ≡ Some m → (p.to ≡ client → ⊥)
    → Stands (standing r) ids nodes clocks net entries → AllPairs (λ x y. x ≢ y) ids → slice_get ids place ≡ Some p.to → AreNumbers net.sent (flying_ids net.flying) → ((standing r).facts p.to).me ≡ p.to
    → AreRead (due_message_of partition_count ((standing r).facts p.to) ((standing r).clocks p.to) p.from m).sends
    → node.now ≡ after_message ((standing r).facts p.to) ((standing r).clocks p.to) p.from m
    → nets.IsSameNetwork (all_posted_in (landing_from net (landing_of i how)) p.to (spelled_sends (due_message_of partition_count ((standing r).facts p.to) ((standing r).clocks p.to) p.from m).sends)) now
    → Stands (after_step (standing r) (delivering i how)) ids (set nodes place node) clocks now entries
arrival_stands r i how p m ids nodes clocks net now entries place node flies free whole read no_client h distinct there numbers me sends is same =
    let w : World = standing r in
    let e : Event = delivering i how in
    let effects : Effects = due_message_of partition_count (w.facts p.to) (w.clocks p.to) p.from m in
    let u : World = came_to_node (event_begun w e)
    (record { from = p.from; to = p.to; message = m }) in
    let taken : (event_begun w e).network ≡ landed_if w.network (landing_of i how) = Rattle.world.proofs.ArrivalLaws.taken_lands w.network i how in
    let left : IsNetwork (landing_from net (landing_of i how)) (event_begun w e).network =
    subst (λ (x : Network). IsNetwork (landing_from net (landing_of i how)) x) (sym taken)
    (landed_network net (landing_from net (landing_of i how)) w.network (landing_of i how) h.network (record { flying = refl; sent = refl; groups = refl })) in
    let end : World = after_all u (map Writes (written (event_begun w e).network p.to effects)) in
    let moves : Moves p.to (all_sent (noted u.want (u.facts p.to) effects.lines) effects.sends) (all_sent_in u.network p.to effects.sends) (all_requests_noted u.asker u.want u.requests effects.lines) u end =
    node_step u p.to effects (subst (λ x. AreOf x effects.lines) me (message_own partition_count (w.facts p.to) (w.clocks p.to) p.from m)) sends
    (numbered (landing_from net (landing_of i how)) (event_begun w e).network left (numbers_left net (landing_of i how) numbers)) in
    let here : u.facts p.to ≡ reached (w.facts p.to) p.from m = at_itself w.facts p.to (reached (w.facts p.to) p.from m) in
    let steps : after_step w e ≡ end =
    ap (λ (ls : List Line). after_all (event_begun w e) (map Writes ls)) (node_lines w i how p m flies free whole read no_client)
    ∙ ap (λ v. after_all v (map Writes (written (event_begun w e).network p.to effects))) (at_node w i how p m (flying_sent w.network i p flies) whole read no_client) in
    subst (λ (v : World). Stands v ids (set nodes place node) clocks now entries) (sym steps)
    (stands_moved w end p.to (after_message (w.facts p.to) (w.clocks p.to) p.from m) u.network ids nodes clocks net now entries place node h distinct there is
    moves.nodes moves.clocks moves.tables
    (moves.here
    ∙ ap (λ (q : Option Want). all_sent (noted q (u.facts p.to) effects.lines) effects.sends) (want_under i how ∙ want_of_arrival w i p m (flying_sent w.network i p flies) read)
    ∙ ap (λ (f : Facts). all_sent f effects.sends) (want_unread partition_count (w.facts p.to) (u.facts p.to) (w.clocks p.to) p.from m)
    ∙ ap (λ (f : Facts). all_sent (noted None f effects.lines) effects.sends) here)
    (λ k d. moves.elsewhere k d ∙ at_another w.facts p.to (reached (w.facts p.to) p.from m) k d)
    (subst (λ (x : Network). IsNetwork now x) (sym (moves.network ∙ ap (λ (x : Network). all_sent_in x p.to effects.sends) taken))
    (sent_network net now w.network p.to (landing_of i how) effects.sends h.network numbers same)))
  where
    want_under : (i : ℕ) (how : Delivery) → want_in (standing r) (delivering i how) ≡ option_and_then (λ x. want_in_message x.message) (arrival_under (standing r).network i)
    want_under i delivery_of.Whole = refl
    want_under i delivery_of.Repeated = refl
    want_under i (delivery_of.Cut size) = refl
