-- Steps that are allowed: their marks are licensed, and their messages of a view go between two members of it.
use Rattle.std.proofs.Common.{◌≡◌, ℕ, ◌+◌, ◌-◌, ◌==◌, Bool, true, false, ◌&&◌, List, [], ◌∷◌, Option, Some, None, map, refl, sym, ap, subst, ◌∙◌, arith, ⊎_elim}
use Rattle.std.specs.Prelude.{All, slice_get, length, nat_lt, IsTrue, if◌then◌else◌}
use Rattle.std.specs.List.{range_with_len}
use Rattle.conflict_order.specs.declared.want.Want.{Want}
use Rattle.conflict_order.specs.declared.want.Want.TheVariants as want
use Rattle.cluster_types.specs.declared.cluster_key.ClusterKey.{ClusterKey}
use Rattle.cluster_types.specs.declared.member.Member.{Member}
use Rattle.cluster_types.specs.Partitions.{partition_of}
use Rattle.script_lang.specs.Proper.{IsProperHeaderLine}
use Rattle.wire_messages.specs.declared.message.Message.{Message}
use Rattle.wire_messages.specs.declared.message.Message.TheVariants as message
use Rattle.wire_messages.specs.Decoding.{message_of}
use Rattle.wire_messages.specs.Nodes.{IsId}
use Rattle.journal_lines.specs.declared.line.Line.{Line}
use Rattle.journal_lines.specs.declared.refusal.Refusal.{Refusal}
use Rattle.node_rules.specs.Client.{node_for}
use Rattle.node_rules.specs.Effects.{sends_only, to_one}
use Rattle.node_rules.specs.Exchange.{View, is_member, members_of}
use Rattle.node_rules.specs.Facts.{Facts, list_at}
use Rattle.node_rules.specs.Map.{entry_of}
use Rattle.node_rules.specs.Messages.{due_message_of, client}
use Rattle.node_rules.specs.Notes.{in_view}
use Rattle.node_rules.specs.Requests.{due_request, due_stop, due_start, map_refusal}
use Rattle.node_rules.specs.Senders.{view_key_of}
use Rattle.node_rules.specs.Shows.{due_map, due_show, map_if, map_line}
use Rattle.node_rules.specs.Tick.{tick_of}
use Rattle.cluster_rules.specs.declared.event.Event.{Event}
use Rattle.cluster_rules.specs.declared.event.Event.TheVariants as event
use Rattle.cluster_rules.specs.Allowed.{AreAllowed, names_known, ends_calm}
use Rattle.cluster_rules.specs.DueEvents.{due_of, due_at_named, due_at_client, due_arrival, arriving, delivery, is_blocked, losing, written}
use Rattle.journal_readings.specs.Lines.{has_node}
use Rattle.cluster_rules.specs.Marks as marks
use Rattle.cluster_rules.specs.Marks.{Mark, Begins, Writes}
use Rattle.journal_readings.specs.Messages.{Posting}
use Rattle.cluster_rules.specs.Network.{Network, landed, flying_at}
use Rattle.cluster_rules.specs.NodeSteps.{AreOf}
use Rattle.cluster_rules.specs.Opening.{Header}
use Rattle.cluster_rules.specs.Steps.{Step, marks_of, all_marks, AreDue}
use Rattle.cluster_rules.specs.World.{World, opened}
use Rattle.cluster_rules.proofs.OwnLines.{tick_own, message_own, request_own, stop_own, start_own}
use Rattle.key_laws.specs.Addressed.{Addressed, AddressedIf, GoesBetween, IsOther, IsOtherIf, ComesFromOther}
use Rattle.key_laws.specs.Licences.{LicensedMarks}
use Rattle.key_laws.specs.Sound.{Sound, NodeKeys, ViewStands}
use Rattle.key_laws.specs.Traced.{Traced, facts_of, traced_after, traced_after_all, untouched}
use Rattle.key_laws.proofs.Addressed.{or_cases, differ, and_left, NodeGoes}
use Rattle.key_laws.proofs.Directed.{Directed, WentTo, AllGo, all_go_grow, line_goes, begun_goes}
use Rattle.key_laws.proofs.DueDirected.{SendsGo, written_go, tick_go, message_go, request_go, stop_go, start_go}
use Rattle.key_laws.proofs.DueSteps.{Begun, step_ok, own_keys, flying_posted}
use Rattle.key_laws.proofs.Frames.{num_same}
use Rattle.key_laws.proofs.Kept.{Keeps, kept_line, kept_begun, kept_all, WasPosted, was_posted, after_all-append}
use Rattle.key_laws.proofs.Order.{same_is}
use Rattle.key_laws.proofs.Quiet.{writes}
use Rattle.key_laws.proofs.Runs.{AreIds, declared_ids, marks_nodes, AllBegun, world_of, steps_ok, start}
use Rattle.key_laws.proofs.Wire.{read_map_ask}
use Rattle.journal_lines.specs.declared.line.Line.TheVariants as line

-- ---- a node that ticks has an id

pub declared_id : (ns : List ℕ) (n : ℕ) → AreIds ns → has_node ns n ≡ true → IsId n
declared_id [] n h e = differ refl (sym e)
declared_id (m ∷ ns) n h e = ⊎_elim (λ q. subst (λ (x : ℕ). IsId x) (num_same m n q) h.0) (λ q. declared_id ns n h.1 q) (or_cases (m == n) (has_node ns n) e)

begun_of : (ns : List ℕ) (e : Event) → AreIds ns → names_known ns e ≡ true → Begun e
begun_of ns (event.Tick n) h e = declared_id ns n h (and_left (has_node ns n) true (and_left (has_node ns n && true) true e))
begun_of ns _ h e = tt

pub record Allowed (n : ℕ) (w : World) (ss : List Step) : Type 0 where
  pub due : AreDue n w ss
  pub begun : AllBegun ss

pub allowed_due : (n : ℕ) (w : World) (ss : List Step) → AreIds w.nodes → AreAllowed n w ss → Allowed n w ss
allowed_due n w [] ids h = record { due = tt; begun = tt }
allowed_due n w (s ∷ ss) ids h =
    let v : World = marks.after_all w (marks_of s) in
    let rest : Allowed n v ss = allowed_due n v ss (subst (λ ns. AreIds ns) (sym (marks_nodes w (marks_of s))) ids) h.1 in
    record { due = (h.0.due, rest.due); begun = (begun_of w.nodes s.event ids (and_left (names_known w.nodes s.event) (ends_calm n w s.event) h.0.comes), rest.begun) }

-- ---- what is due of an event goes between members

own_node : (t : Traced) (n : ℕ) → Sound t → (ls : List Line) → AreOf (facts_of t n).me ls → AreOf n ls
own_node t n s ls h = subst (λ (m : ℕ). AreOf m ls) (s.nodes n).me h

at_node : (t : Traced) (n : ℕ) → Sound t → (ms : List (ℕ × Message)) → SendsGo t (facts_of t n).me ms → SendsGo t n ms
at_node t n s ms h = subst (λ (m : ℕ). SendsGo t m ms) (s.nodes n).me h

request_at_go : (t : Traced) (net : Network) (n clock : ℕ) (d : List ℕ) (q : Want) → Sound t → Directed t → AllGo t (written net n (due_request (facts_of t n) clock d q))
request_at_go t net n clock d q s h =
    written_go t n net (due_request (facts_of t n) clock d q) (own_node t n s _ (request_own (facts_of t n) clock d q))
    (at_node t n s _ (request_go t (facts_of t n) clock d q (own_keys t n s) (h.nodes n)))

named_go : (t : Traced) (w : World) (d : List ℕ) (q : Want) (o : Option ℕ) → w.facts ≡ t.world.facts → Sound t → Directed t → AllGo t (due_at_named w d q o)
named_go t w d q None same s h = (tt, tt)
named_go t w d q (Some n) same s h = (tt, subst (λ (fs : ℕ → Facts). AllGo t (written w.network n (due_request (fs n) (w.clocks n) d q))) (sym same) (request_at_go t w.network n (w.clocks n) d q s h))

client_go : (t : Traced) (m : Message) → AllGo t (due_at_client m)
client_go t (message.MapTable table) = (tt, tt)
client_go t _ = (tt, tt)

arriving_go : (n : ℕ) (t : Traced) (w : World) (net : Network) (p : Posting) → w.facts ≡ t.world.facts → Sound t → Directed t → WasPosted t p → AllGo t (arriving n w net p)
arriving_go n t w net p same s h posted = go (message_of p.bytes) refl
  where
    node : (m : Message) → message_of p.bytes ≡ Some m → AllGo t (written net p.to (due_message_of n (facts_of t p.to) (w.clocks p.to) p.from m))
    node m r =
        written_go t p.to net (due_message_of n (facts_of t p.to) (w.clocks p.to) p.from m) (own_node t p.to s _ (message_own n (facts_of t p.to) (w.clocks p.to) p.from m))
        (at_node t p.to s _ (message_go n t (facts_of t p.to) (w.clocks p.to) p.from m (record {
          sound = s;
          keys = own_keys t p.to s;
          goes = h.nodes p.to;
          says = s.sent posted.place p m posted.stands r;
          between = subst (λ (a : ℕ). GoesBetween t p.from a m) (sym (s.nodes p.to).me) (h.sent posted.place p m posted.stands r);
        })))

    at_end : (m : Message) → message_of p.bytes ≡ Some m → (b : Bool) → AllGo t (if b then due_at_client m else written net p.to (due_message_of n (w.facts p.to) (w.clocks p.to) p.from m))
    at_end m r true = client_go t m
    at_end m r false = subst (λ (fs : ℕ → Facts). AllGo t (written net p.to (due_message_of n (fs p.to) (w.clocks p.to) p.from m))) (sym same) (node m r)

    go : (o : Option Message) → message_of p.bytes ≡ o → AllGo t (due_arrival n w net p o)
    go None r = tt
    go (Some m) r = at_end m r (p.to == client)

no_some : {A B : Type 0} {a : A} → None ≡ Some a → B
no_some e = absurd (grind arith)

delivery_go : (t : Traced) (w : World) (i : ℕ) (lines : Posting → List Line) → ((p : Posting) → flying_at w.network i ≡ Some p → AllGo t (lines p)) → AllGo t (delivery w i lines (flying_at w.network i))
delivery_go t w i lines h = go (flying_at w.network i) refl
  where
    unless : (p : Posting) → flying_at w.network i ≡ Some p → (b : Bool) → AllGo t (if b then line.Blocked i ∷ [] else lines p)
    unless p e true = (tt, tt)
    unless p e false = h p e

    go : (o : Option Posting) → flying_at w.network i ≡ o → AllGo t (delivery w i lines o)
    go None e = (tt, tt)
    go (Some p) e = unless p e (is_blocked w p)

-- a message of that number was posted, also in a world that differs in what is in flight
pub posted_in : (t u : Traced) (i : ℕ) (p : Posting) → u.world.network.sent ≡ t.world.network.sent → flying_at t.world.network i ≡ Some p → WasPosted u p
posted_in t u i p same e =
    let x : WasPosted t p = was_posted t i p (flying_posted t.world.network i p e) in
    record { place = x.place; stands = subst (λ (xs : List Posting). slice_get xs x.place ≡ Some p) (sym same) x.stands }

-- it went to its own end
went_to : (t u : Traced) (i : ℕ) (p : Posting) → u.world.network.sent ≡ t.world.network.sent → flying_at t.world.network i ≡ Some p → WentTo u i p.to
went_to t u i p same e = record { posting = p; stands = go (nat_lt 0 i) (flying_posted t.world.network i p e); end = refl }
  where
    go : (b : Bool) → (if b then slice_get t.world.network.sent (i - 1) else None) ≡ Some p → (if b then slice_get u.world.network.sent (i - 1) else None) ≡ Some p
    go true e = subst (λ (xs : List Posting). slice_get xs (i - 1) ≡ Some p) (sym same) e
    go false e = no_some e

map_own : (n : ℕ) (f : Facts) (from to : ℕ) → AreOf n (due_map f from to).lines
map_own n f from to = go (map_refusal f)
  where
    each : (ps : List ℕ) → AreOf n (map (λ p. map_line f p (entry_of (list_at f p) f.exchange.rows p)) ps)
    each [] = tt
    each (p ∷ ps) = (tt, each ps)

    go : (o : Option Refusal) → AreOf n (map_if f from to o)
    go (Some cause) = (tt, tt)
    go None = each (range_with_len from (to + 1 - from))

pub event_go : (n : ℕ) (t : Traced) (e : Event) → Sound (traced_after t (Begins e)) → Directed (traced_after t (Begins e)) → AllGo (traced_after t (Begins e)) (due_of n t.world e)
event_go n t (event.Clock node time) s h = (tt, tt)
event_go n t (event.Groups groups) s h = (tt, tt)
event_go n t (event.Tick node) s h =
    let u : Traced = traced_after t (Begins (event.Tick node)) in
    written_go u node t.world.network (tick_of n (facts_of u node)) (own_node u node s _ (tick_own n (facts_of u node)))
    (at_node u node s _ (tick_go u n (facts_of u node) (own_keys u node s) (h.nodes node)))
event_go n t (event.Stop node) s h =
    let u : Traced = traced_after t (Begins (event.Stop node)) in
    written_go u node t.world.network (due_stop (facts_of u node)) (own_node u node s _ (stop_own (facts_of u node))) (stop_go u node (facts_of u node))
event_go n t (event.Start node) s h =
    let u : Traced = traced_after t (Begins (event.Start node)) in
    written_go u node t.world.network (due_start (facts_of u node)) (own_node u node s _ (start_own (facts_of u node))) (start_go u node (facts_of u node))
event_go n t (event.Put node d v) s h = request_at_go (traced_after t (Begins (event.Put node d v))) t.world.network node (t.world.clocks node) d (want.Put v) s h
event_go n t (event.Get node d) s h = request_at_go (traced_after t (Begins (event.Get node d))) t.world.network node (t.world.clocks node) d want.Get s h
event_go n t (event.Del node d) s h = request_at_go (traced_after t (Begins (event.Del node d))) t.world.network node (t.world.clocks node) d want.Del s h
event_go n t (event.ClientPut d v) s h = named_go (traced_after t (Begins (event.ClientPut d v))) t.world d (want.Put v) (node_for t.world.tables (partition_of d)) refl s h
event_go n t (event.ClientGet d) s h = named_go (traced_after t (Begins (event.ClientGet d))) t.world d want.Get (node_for t.world.tables (partition_of d)) refl s h
event_go n t (event.ClientDel d) s h = named_go (traced_after t (Begins (event.ClientDel d))) t.world d want.Del (node_for t.world.tables (partition_of d)) refl s h
event_go n t (event.Ask node) s h =
    let u : Traced = traced_after t (Begins (event.Ask node)) in
    let asks : SendsGo u client (to_one node message.MapAsk) = (read_map_ask (λ m. GoesBetween u client node m) tt, tt) in
    written_go u client t.world.network (sends_only (to_one node message.MapAsk)) tt asks
event_go n t (event.Deliver i) s h =
    let u : Traced = traced_after t (Begins (event.Deliver i)) in
    delivery_go u t.world i _ (λ p e. (went_to t u i p refl e, arriving_go n u t.world (landed t.world.network i) p refl s h (posted_in t u i p refl e)))
event_go n t (event.Repeat i) s h =
    let u : Traced = traced_after t (Begins (event.Repeat i)) in
    delivery_go u t.world i _ (λ p e. (went_to t u i p refl e, arriving_go n u t.world t.world.network p refl s h (posted_in t u i p refl e)))
event_go n t (event.Lose i) s h = go (flying_at t.world.network i)
  where
    go : (o : Option Posting) → AllGo (traced_after t (Begins (event.Lose i))) (losing i o)
    go None = (tt, tt)
    go (Some p) = (tt, tt)
event_go n t (event.Cut i size) s h = delivery_go u t.world i _ (λ p e. (went_to t u i p refl e, go p e (nat_lt size (length p.bytes))))
  where
    u : Traced
    u = traced_after t (Begins (event.Cut i size))

    go : (p : Posting) → flying_at t.world.network i ≡ Some p → (b : Bool) → AllGo u (if b then line.Short p.to ∷ [] else arriving n t.world (landed t.world.network i) p)
    go p e true = (tt, tt)
    go p e false = arriving_go n u t.world (landed t.world.network i) p refl s h (posted_in t u i p refl e)
event_go n t (event.Map node from to) s h =
    let u : Traced = traced_after t (Begins (event.Map node from to)) in
    written_go u node t.world.network (due_map (facts_of u node) from to) (map_own node (facts_of u node) from to) tt
event_go n t (event.Show node d) s h =
    let u : Traced = traced_after t (Begins (event.Show node d)) in
    written_go u node t.world.network (due_show (facts_of u node) d) (tt, tt) tt
event_go n t (event.Place p) s h = (tt, tt)
event_go n t (event.Hash d) s h = (tt, tt)
event_go n t (event.Quiesce node) s h = (tt, tt)
event_go n t (event.Unquiesce node) s h = (tt, tt)
event_go n t (event.Calmed rounds) s h = (tt, tt)
event_go n t _ s h = tt

-- ---- steps

lines_go : (t : Traced) (ls : List Line) → Sound t → LicensedMarks t (writes ls) → AllGo t ls → Directed t → Directed (traced_after_all t (writes ls))
lines_go t [] s ok go h = h
lines_go t (l ∷ ls) s ok go h =
    let k : Keeps t (traced_after t (Writes l)) = kept_line t l ok.0 s in
    lines_go (traced_after t (Writes l)) ls k.sound ok.1 (all_go_grow t (traced_after t (Writes l)) k.grows ls go.1) (line_goes t l s k.grows go.0 h)

pub step_goes : (n : ℕ) (t : Traced) (e : Event) → Begun e → Sound t → Directed t → Directed (traced_after_all t (Begins e ∷ writes (due_of n t.world e)))
step_goes n t e b s h =
    let u : Traced = traced_after t (Begins e) in
    let k : Keeps t u = kept_begun t e s in
    let d : Directed u = begun_goes t e k.grows h in
    lines_go u (due_of n t.world e) k.sound (step_ok n t e b s).1 (event_go n t e k.sound d) d

pub steps_go : (n : ℕ) (t : Traced) (ss : List Step) → Sound t → Directed t → AllBegun ss → AreDue n t.world ss → Directed (traced_after_all t (all_marks ss))
steps_go n t [] s h b d = h
steps_go n t (x ∷ ss) s h b d =
    let u : Traced = traced_after_all t (marks_of x) in
    let ok : LicensedMarks t (marks_of x) = subst (λ ls. LicensedMarks t (Begins x.event ∷ writes ls)) (sym d.0) (step_ok n t x.event b.0 s) in
    let next : Directed u = subst (λ ls. Directed (traced_after_all t (Begins x.event ∷ writes ls))) (sym d.0) (step_goes n t x.event b.0 s h) in
    subst (λ (v : Traced). Directed v) (sym (after_all-append t (marks_of x) (all_marks ss)))
    (steps_go n u ss (kept_all t (marks_of x) ok s).sound next b.1 (subst (λ v. AreDue n v ss) (sym (world_of t (marks_of x))) d.1))

-- ---- from the opened world

pub none_directed : (w : World) → ((n : ℕ) → NodeGoes (untouched w) (w.facts n)) → w.network.sent ≡ [] → Directed (untouched w)
none_directed w nodes e = record { nodes = nodes; sent = λ i p m found r. absurd (nothing i p w.network.sent e found) }
  where
    nothing : (i : ℕ) (p : Posting) (xs : List Posting) → xs ≡ [] → slice_get xs i ≡ Some p → ⊥
    nothing i p [] same e = no_some e
    nothing i p (x ∷ xs) same e = cc

-- what the marks of allowed steps lead to
pub record Reached (h : Header) (ss : List Step) : Type 0 where
  pub licensed : LicensedMarks (untouched (opened h)) (all_marks ss)
  pub sound : Sound (traced_after_all (untouched (opened h)) (all_marks ss))
  pub directed : Directed (traced_after_all (untouched (opened h)) (all_marks ss))

pub reached_by : (n : ℕ) (h : Header) (ss : List Step) → All IsProperHeaderLine h → AreAllowed n (opened h) ss → Reached h ss
reached_by n h ss proper allowed =
    let t : Traced = untouched (opened h) in
    let a : Allowed n (opened h) ss = allowed_due n (opened h) ss (declared_ids h proper) allowed in
    let ok : LicensedMarks t (all_marks ss) = steps_ok n t ss (start h).sound a.begun a.due in
    record {
      licensed = ok;
      sound = (kept_all t (all_marks ss) ok (start h).sound).sound;
      directed = steps_go n t ss (start h).sound (none_directed (opened h) (λ m. record { targets = tt; waits = tt }) refl) a.begun a.due;
    }

pub goes_between : (n : ℕ) (h : Header) (ss : List Step) → All IsProperHeaderLine h → AreAllowed n (opened h) ss → (i : ℕ) (p : Posting) (m : Message)
    → slice_get (traced_after_all (untouched (opened h)) (all_marks ss)).world.network.sent i ≡ Some p → message_of p.bytes ≡ Some m
    → GoesBetween (traced_after_all (untouched (opened h)) (all_marks ss)) p.from p.to m
goes_between n h ss proper allowed i p m found read = (reached_by n h ss proper allowed).directed.sent i p m found read

-- ---- at the receiver

same_list : {A : Type 0} (a b : A) → Some a ≡ Some b → a ≡ b
same_list a b e = grind arith

at_receiver : (t : Traced) (f : Facts) (a n : ℕ) (k : ClusterKey) → NodeKeys t n f → Addressed t a n k → in_view f k ≡ true → IsOther f a
at_receiver t f a n k h x e = record { member = go f.exchange.view h.view e; other = λ same. x.differ (same ∙ h.me) }
  where
    go : (o : Option View) → ViewStands t n f.agreement.last o → Rattle.node_rules.specs.Exchange.is_view o k ≡ true → IsTrue (is_member (members_of o) a)
    go None v e = differ refl (sym e)
    go (Some v) i e =
        let key : v.key ≡ k = same_is v.key k e in
        let same : x.list ≡ v.members = same_list x.list v.members (sym x.listed ∙ ap t.lists (sym key) ∙ i.list) in
        subst (λ (ms : List Member). IsTrue (is_member ms a)) same x.sender

comes_if : (t : Traced) (f : Facts) (a n : ℕ) (o : Option ClusterKey) → NodeKeys t n f → AddressedIf t a n o → IsOtherIf f a o
comes_if t f a n None h x = tt
comes_if t f a n (Some k) h x = at_receiver t f a n k h x

comes_from : (t : Traced) (f : Facts) (a n : ℕ) (m : Message) → NodeKeys t n f → GoesBetween t a n m → ComesFromOther f a m
comes_from t f a n m h x = comes_if t f a n (view_key_of m) h x

pub comes_from_other : (n : ℕ) (h : Header) (ss : List Step) → All IsProperHeaderLine h → AreAllowed n (opened h) ss → (i : ℕ) (p : Posting) (m : Message)
    → slice_get (marks.after_all (opened h) (all_marks ss)).network.sent i ≡ Some p → message_of p.bytes ≡ Some m
    → ComesFromOther ((marks.after_all (opened h) (all_marks ss)).facts p.to) p.from m
comes_from_other n h ss proper allowed i p m found read =
    let t : Traced = traced_after_all (untouched (opened h)) (all_marks ss) in
    let r : Reached h ss = reached_by n h ss proper allowed in
    let same : t.world ≡ marks.after_all (opened h) (all_marks ss) = world_of (untouched (opened h)) (all_marks ss) in
    let posted : slice_get t.world.network.sent i ≡ Some p = subst (λ (w : World). slice_get w.network.sent i ≡ Some p) (sym same) found in
    subst (λ (w : World). ComesFromOther (w.facts p.to) p.from m) same (comes_from t (facts_of t p.to) p.from p.to m (r.sound.nodes p.to) (r.directed.sent i p m posted read))
