-- What is due of every event may stand.
use Rattle.std.proofs.Common.{◌≡◌, ℕ, ◌==◌, nat_lt, nat_le, Bool, true, false, List, [], ◌∷◌, map, length, Option, Some, None, refl, sym, subst, arith, if◌then◌else◌}
use Rattle.std.specs.Prelude.{option_and_then, option_map, slice_get, ◌++◌, ◌-◌}
use Rattle.std.proofs.lemmas.Bool.Decides.{nat_tests}
use Rattle.conflict_order.specs.declared.want.Want.{Want}
use Rattle.conflict_order.specs.declared.want.Want.TheVariants as want
use Rattle.wire_messages.specs.declared.message.Message.{Message}
use Rattle.wire_messages.specs.declared.message.Message.TheVariants as message
use Rattle.wire_messages.specs.Decoding.{message_of}
use Rattle.wire_messages.specs.Nodes.{IsId}
use Rattle.journal_lines.specs.declared.line.Line.{Line}
use Rattle.journal_lines.specs.declared.line.Line.TheVariants as line
use Rattle.journal_lines.specs.declared.refusal.Refusal.{Refusal}
use Rattle.node_rules.specs.Effects.{sends_only, to_one, lines_only}
use Rattle.node_rules.specs.Entering.{closing}
use Rattle.node_rules.specs.Facts.{Facts, view_key, list_at}
use Rattle.node_rules.specs.Map.{entry_of}
use Rattle.node_rules.specs.Messages.{due_message_of, client}
use Rattle.node_rules.specs.Notes.{reached}
use Rattle.node_rules.specs.Requests.{map_refusal, due_request}
use Rattle.node_rules.specs.Shows.{map_line, map_if, due_map, due_show}
use Rattle.node_rules.specs.Tick.{tick_of}
use Rattle.cluster_rules.specs.declared.event.Event.{Event}
use Rattle.cluster_rules.specs.declared.event.Event.TheVariants as event
use Rattle.cluster_rules.specs.DueEvents.{written, due_at_named, due_at_client, due_arrival, arriving, is_blocked, delivery, losing, due_of}
use Rattle.cluster_rules.specs.Marks.{Begins, came_to_client, came_to_node}
use Rattle.journal_readings.specs.Messages.{Posting, Arrival, arrived, arrived_cut}
use Rattle.node_rules.specs.Client.{node_for}
use Rattle.cluster_rules.specs.Network.{Network, posting_at, flying_at, is_flying, landed}
use Rattle.cluster_rules.specs.World.{World}
use Rattle.cluster_types.specs.Partitions.{partition_of}
use Rattle.key_laws.specs.Traced.{Traced, facts_of, traced_after}
use Rattle.key_laws.specs.Licences.{IsPromisedKey, Says, MaySendKey, LicensedMarks, Visited}
use Rattle.key_laws.specs.Sound.{NodeKeys, Sound}
use Rattle.key_laws.proofs.Growth.{says_grows, node_grows}
use Rattle.key_laws.proofs.Frames.{at_here}
use Rattle.key_laws.proofs.Kept.{Keeps, kept_begun, WasPosted, was_posted, arrived_in, kept_node}
use Rattle.key_laws.proofs.Wire.{read_map_ask}
use Rattle.key_laws.proofs.Quiet.{writes, licensed_both, QuietLines, Calmly, quietly, posts_of, Quiet, quiet_ok, written_ok}
use Rattle.key_laws.proofs.DueViews.{view_known, closing_quiet}
use Rattle.key_laws.proofs.DueTick.{tick_ok}
use Rattle.key_laws.proofs.DueMessages.{message_ok}
use Rattle.key_laws.proofs.DueRequests.{mapped, request_quiet}

-- ---- a stop, a start, and what is shown

stop_ok : (t : Traced) (n : ℕ) (net : Network) (f : Facts) (b : Bool) → Sound t → IsPromisedKey t (view_key f) → LicensedMarks t (writes (written net n (if b then lines_only (closing f ++ line.Stop f.me ∷ []) else lines_only (line.Down f.me ∷ []))))
stop_ok t n net f true s h =
    let c : Calmly t (closing f) = quietly t (closing f) s (closing_quiet t f h) in
    written_ok t n net (if true then lines_only (closing f ++ line.Stop f.me ∷ []) else lines_only (line.Down f.me ∷ [])) (licensed_both t (closing f) (line.Stop f.me ∷ []) c.ok (tt, tt)) s tt
stop_ok t n net f false s h = quiet_ok t n net (if false then lines_only (closing f ++ line.Stop f.me ∷ []) else lines_only (line.Down f.me ∷ [])) s (record { lines = (tt, tt); posts = tt })

start_quiet : (t : Traced) (n : ℕ) (f : Facts) (b : Bool) → Quiet t n (if b then lines_only (line.Up f.me ∷ []) else lines_only (line.Start f.me ∷ []))
start_quiet t n f true = record { lines = (tt, tt); posts = tt }
start_quiet t n f false = record { lines = (tt, tt); posts = tt }

map_from : (t : Traced) (f : Facts) (ps : List ℕ) → Visited t f.me (view_key f) → QuietLines t (map (λ p. map_line f p (entry_of (list_at f p) f.exchange.rows p)) ps)
map_from t f [] h = tt
map_from t f (p ∷ ps) h = (h, map_from t f ps h)

map_quiet : (t : Traced) (f : Facts) (from to : ℕ) (o : Option Refusal) → (o ≡ None → Visited t f.me (view_key f)) → QuietLines t (map_if f from to o)
map_quiet t f from to (Some cause) h = (tt, tt)
map_quiet t f from to None h = map_from t f _ (h refl)

-- ---- arrivals

client_ok : (t : Traced) (x : Arrival) → Says t x.from x.message → Sound t → LicensedMarks (record { world = came_to_client t.world x.message; lists = t.lists; entered = t.entered }) (writes (due_at_client x.message))
client_ok t x says s = go x.from x.message says
  where
    go : (from : ℕ) (m : Message) → Says t from m → LicensedMarks (record { world = came_to_client t.world m; lists = t.lists; entered = t.entered }) (writes (due_at_client m))
    go from (message.MapTable table) says = (record { bound = says.bound; field = says.field }, tt)
    go from _ says = (tt, tt)

node_ok : (n : ℕ) (t : Traced) (net : Network) (clock : ℕ) (p : Posting) (m : Message) → Sound t → WasPosted t p → message_of p.bytes ≡ Some m
    → LicensedMarks (record { world = came_to_node t.world (record { from = p.from; to = p.to; message = m }); lists = t.lists; entered = t.entered }) (writes (written net p.to (due_message_of n (facts_of t p.to) clock p.from m)))
node_ok n t net clock p m s posted e =
    let f : Facts = facts_of t p.to in
    let x : Arrival = record { from = p.from; to = p.to; message = m } in
    let u : Traced = record { world = came_to_node t.world x; lists = t.lists; entered = t.entered } in
    let says : Says t p.from m = s.sent posted.place p m posted.stands e in
    let k : Keeps t u = kept_node t x says s in
    let me : f.me ≡ p.to = (s.nodes p.to).me in
    subst (λ (a : ℕ). LicensedMarks u
    (writes (written net a (due_message_of n f clock p.from m)))) me
    (message_ok n u net f clock p.from m (record {
      sound = k.sound;
      keys = subst (λ (n : ℕ). NodeKeys u n f) (sym me) (node_grows t u k.grows p.to f (s.nodes p.to));
      says = says_grows t u k.grows p.from m says;
      was_sent = record { number = posted.place; posting = p; stands = posted.stands; read = e };
      here = at_here t.world.facts p.to f.me (reached f p.from m) (sym me) (λ (g : Facts). g ≡ reached f p.from m) refl;
    }))

arrival_ok : (n : ℕ) (t : Traced) (e : Event) (net : Network) (p : Posting) → Sound (traced_after t (Begins e)) → WasPosted (traced_after t (Begins e)) p
    → LicensedMarks (arrived_in (traced_after t (Begins e)) (arrived p.to p)) (writes (arriving n t.world net p))
arrival_ok n t e net p s posted = go (message_of p.bytes) refl
  where
    u : Traced
    u = traced_after t (Begins e)

    at_end : (m : Message) → message_of p.bytes ≡ Some m → (b : Bool)
        → LicensedMarks (record { world = (if b then came_to_client u.world m else came_to_node u.world (record { from = p.from; to = p.to; message = m })); lists = u.lists; entered = u.entered }) (writes (if b then due_at_client m else written net p.to (due_message_of n (t.world.facts p.to) (t.world.clocks p.to) p.from m)))
    at_end m r true = client_ok u (record { from = p.from; to = p.to; message = m }) (s.sent posted.place p m posted.stands r) s
    at_end m r false = node_ok n u net (t.world.clocks p.to) p m s posted r

    go : (o : Option Message) → message_of p.bytes ≡ o → LicensedMarks (arrived_in u (option_map (λ m. record { from = p.from; to = p.to; message = m }) o)) (writes (due_arrival n t.world net p o))
    go None r = tt
    go (Some m) r = at_end m r (p.to == client)

pub flying_posted : (net : Network) (i : ℕ) (p : Posting) → flying_at net i ≡ Some p → posting_at net i ≡ Some p
flying_posted net i p e = go (is_flying net i) e
  where
    go : (b : Bool) → (if b then posting_at net i else None) ≡ Some p → posting_at net i ≡ Some p
    go true e = e
    go false e = absurd (grind arith)

landed_posted : (net : Network) (i : ℕ) (p : Posting) → posting_at net i ≡ Some p → posting_at (landed net i) i ≡ Some p
landed_posted net i p e = go (nat_lt 0 i) e
  where
    go : (b : Bool) → (if b then slice_get net.sent (i - 1) else None) ≡ Some p → (if b then slice_get (landed net i).sent (i - 1) else None) ≡ Some p
    go true e = e
    go false e = e

-- the message has arrived under that number
came_at : (u : Traced) (b : Option Posting → Option Arrival) (i : ℕ) (p : Posting) (ls : List Line) → posting_at u.world.network i ≡ Some p
    → LicensedMarks (arrived_in u (b (Some p))) (writes ls) → LicensedMarks (arrived_in u (b (posting_at u.world.network i))) (writes ls)
came_at u b i p ls e h = subst (λ o. LicensedMarks (arrived_in u (b o)) (writes ls)) (sym e) h

delivery_ok : (t u : Traced) (i : ℕ) (lines : Posting → List Line) → ((p : Posting) → posting_at t.world.network i ≡ Some p → LicensedMarks u (writes (lines p))) → LicensedMarks u (writes (delivery t.world i lines (flying_at t.world.network i)))
delivery_ok t u i lines h = go (flying_at t.world.network i) refl
  where
    blocked : (p : Posting) → posting_at t.world.network i ≡ Some p → (b : Bool) → LicensedMarks u (writes (if b then line.Blocked i ∷ [] else lines p))
    blocked p e true = (tt, tt)
    blocked p e false = h p e

    go : (o : Option Posting) → flying_at t.world.network i ≡ o → LicensedMarks u (writes (delivery t.world i lines o))
    go None e = (tt, tt)
    go (Some p) e = blocked p (flying_posted t.world.network i p e) (is_blocked t.world p)

deliver_ok : (n : ℕ) (t : Traced) (i : ℕ) → Sound (traced_after t (Begins (event.Deliver i))) → LicensedMarks (traced_after t (Begins (event.Deliver i))) (writes (due_of n t.world (event.Deliver i)))
deliver_ok n t i s = delivery_ok t u i _ (λ p e. (tt, came_at u (option_and_then (arrived p.to)) i p _ (landed_posted t.world.network i p e) (arrival_ok n t (event.Deliver i) (landed t.world.network i) p s (was_posted u i p (landed_posted t.world.network i p e)))))
  where
    u : Traced
    u = traced_after t (Begins (event.Deliver i))

repeat_ok : (n : ℕ) (t : Traced) (i : ℕ) → Sound (traced_after t (Begins (event.Repeat i))) → LicensedMarks (traced_after t (Begins (event.Repeat i))) (writes (due_of n t.world (event.Repeat i)))
repeat_ok n t i s = delivery_ok t u i _ (λ p e. (tt, came_at u (option_and_then (arrived p.to)) i p _ e (arrival_ok n t (event.Repeat i) t.world.network p s (was_posted u i p e))))
  where
    u : Traced
    u = traced_after t (Begins (event.Repeat i))

long_enough : (a b : ℕ) → nat_lt a b ≡ false → nat_le b a ≡ true
long_enough a b e = grind (arith, nat_tests)

cut_ok : (n : ℕ) (t : Traced) (i size : ℕ) → Sound (traced_after t (Begins (event.Cut i size))) → LicensedMarks (traced_after t (Begins (event.Cut i size))) (writes (due_of n t.world (event.Cut i size)))
cut_ok n t i size s = delivery_ok t u i _ (λ p e. (tt, came_at u (option_and_then (arrived_cut p.to size)) i p _ (landed_posted t.world.network i p e) (whole p e (nat_lt size (length p.bytes)) refl)))
  where
    u : Traced
    u = traced_after t (Begins (event.Cut i size))

    whole : (p : Posting) → posting_at t.world.network i ≡ Some p → (b : Bool) → nat_lt size (length p.bytes) ≡ b
        → LicensedMarks (arrived_in u (arrived_cut p.to size p)) (writes (if b then line.Short p.to ∷ [] else arriving n t.world (landed t.world.network i) p))
    whole p e true short = (tt, tt)
    whole p e false long =
        subst (λ c. LicensedMarks (arrived_in u (if c then arrived p.to p else None)) (writes (arriving n t.world (landed t.world.network i) p))) (sym (long_enough size (length p.bytes) long))
        (arrival_ok n t (event.Cut i size) (landed t.world.network i) p s (was_posted u i p (landed_posted t.world.network i p e)))

lose_ok : (t : Traced) (i : ℕ) (o : Option Posting) → LicensedMarks t (writes (losing i o))
lose_ok t i None = (tt, tt)
lose_ok t i (Some p) = (tt, tt)

-- ---- all events

-- a node that ticks has an id
abbrev pub Begun : Event → Type 0
Begun (event.Tick node) = IsId node
Begun _ = Unit {0}

tick_at : (t : Traced) (net : Network) (n node : ℕ) → Sound t → IsId node → LicensedMarks t (writes (written net node (tick_of n (facts_of t node))))
tick_at t net n node s id =
    let f : Facts = facts_of t node in
    let me : f.me ≡ node = (s.nodes node).me in
    subst (λ (m : ℕ). LicensedMarks t (writes (written net m (tick_of n f)))) me
    (tick_ok t net f n s (subst (λ (m : ℕ). facts_of t m ≡ f) (sym me) refl) (subst (λ (m : ℕ). IsId m) (sym me) id))

known_at : (t : Traced) (node : ℕ) → Sound t → IsPromisedKey t (view_key (facts_of t node))
known_at t node s = view_known t node (facts_of t node) (s.nodes node)

pub own_keys : (t : Traced) (node : ℕ) → Sound t → NodeKeys t (facts_of t node).me (facts_of t node)
own_keys t node s = subst (λ (m : ℕ). NodeKeys t m (facts_of t node)) (sym (s.nodes node).me) (s.nodes node)

request_ok : (t : Traced) (w : World) (net : Network) (node : ℕ) (clock : ℕ) (d : List ℕ) (q : Want) → Sound t → LicensedMarks t (writes (written net node (due_request (facts_of t node) clock d q)))
request_ok t w net node clock d q s = quiet_ok t node net _ s (request_quiet t node (facts_of t node) clock d q (own_keys t node s))

named_ok : (t : Traced) (e : Event) (d : List ℕ) (q : Want) (o : Option ℕ) → Sound (traced_after t (Begins e)) → LicensedMarks (traced_after t (Begins e)) (writes (due_at_named t.world d q o))
named_ok t e d q None s = (tt, tt)
named_ok t e d q (Some n) s = (tt, request_ok (traced_after t (Begins e)) t.world t.world.network n (t.world.clocks n) d q s)

lines_ok : (n : ℕ) (t : Traced) (e : Event) → Begun e → Sound (traced_after t (Begins e)) → LicensedMarks (traced_after t (Begins e)) (writes (due_of n t.world e))
lines_ok n t (event.Clock node time) b s = (tt, tt)
lines_ok n t (event.Groups groups) b s = (tt, tt)
lines_ok n t (event.Tick node) b s = tick_at (traced_after t (Begins (event.Tick node))) t.world.network n node s b
lines_ok n t (event.Stop node) b s = stop_ok (traced_after t (Begins (event.Stop node))) node t.world.network (facts_of t node) (facts_of t node).up s (known_at (traced_after t (Begins (event.Stop node))) node s)
lines_ok n t (event.Start node) b s = quiet_ok (traced_after t (Begins (event.Start node))) node t.world.network _ s (start_quiet _ node (facts_of t node) (facts_of t node).up)
lines_ok n t (event.Put node d v) b s = request_ok (traced_after t (Begins (event.Put node d v))) t.world t.world.network node (t.world.clocks node) d (want.Put v) s
lines_ok n t (event.Get node d) b s = request_ok (traced_after t (Begins (event.Get node d))) t.world t.world.network node (t.world.clocks node) d want.Get s
lines_ok n t (event.Del node d) b s = request_ok (traced_after t (Begins (event.Del node d))) t.world t.world.network node (t.world.clocks node) d want.Del s
lines_ok n t (event.ClientPut d v) b s = named_ok t (event.ClientPut d v) d (want.Put v) (node_for t.world.tables (partition_of d)) s
lines_ok n t (event.ClientGet d) b s = named_ok t (event.ClientGet d) d want.Get (node_for t.world.tables (partition_of d)) s
lines_ok n t (event.ClientDel d) b s = named_ok t (event.ClientDel d) d want.Del (node_for t.world.tables (partition_of d)) s
lines_ok n t (event.Ask node) b s =
    quiet_ok (traced_after t (Begins (event.Ask node))) client t.world.network (sends_only (to_one node message.MapAsk)) s
    (record { lines = tt; posts = (posts_of (traced_after t (Begins (event.Ask node))) client message.MapAsk (read_map_ask (λ x. Says (traced_after t (Begins (event.Ask node))) client x × MaySendKey (traced_after t (Begins (event.Ask node))) client x) (tt, tt)), tt) })
lines_ok n t (event.Deliver i) b s = deliver_ok n t i s
lines_ok n t (event.Repeat i) b s = repeat_ok n t i s
lines_ok n t (event.Lose i) b s = lose_ok _ i (flying_at t.world.network i)
lines_ok n t (event.Cut i size) b s = cut_ok n t i size s
lines_ok n t (event.Map node from to) b s =
    quiet_ok (traced_after t (Begins (event.Map node from to))) node t.world.network (due_map (facts_of t node) from to) s
    (record { lines = map_quiet (traced_after t (Begins (event.Map node from to))) (facts_of t node) from to (map_refusal (facts_of t node)) (mapped (traced_after t (Begins (event.Map node from to))) (facts_of t node) (own_keys (traced_after t (Begins (event.Map node from to))) node s)); posts = tt })
lines_ok n t (event.Place p) b s = (tt, tt)
lines_ok n t (event.Hash d) b s = (tt, tt)
lines_ok n t (event.Show node d) b s = quiet_ok (traced_after t (Begins (event.Show node d))) node t.world.network (due_show (facts_of t node) d) s (record { lines = (tt, tt); posts = tt })
lines_ok n t (event.Quiesce node) b s = (tt, tt)
lines_ok n t (event.Unquiesce node) b s = (tt, tt)
lines_ok n t (event.Calmed rounds) b s = (tt, tt)
lines_ok n t _ b s = tt

-- the marks of a step may stand
pub step_ok : (n : ℕ) (t : Traced) (e : Event) → Begun e → Sound t → LicensedMarks t (Begins e ∷ writes (due_of n t.world e))
step_ok n t e b s = (tt, lines_ok n t e b (kept_begun t e s).sound)
