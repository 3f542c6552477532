-- Steps of messages, of requests and of maps.
use Rattle.std.proofs.Common.{◌≡◌, ℕ, ◌<◌, ◌≤◌, Bool, true, false, List, [], ◌∷◌, ◌++◌, length, map, Option, Some, None, refl, sym, ap, ◌∙◌, subst, arith}
use Rattle.std.specs.Prelude.{option_map, option_and_then, nat_lt, nat_le, if◌then◌else◌}
use Rattle.std.proofs.lemmas.Bool.{ltb-true, leb-true, le-leb, ltb-false}
use Rattle.conflict_order.specs.declared.policy.Policy.{Policy}
use Rattle.conflict_order.specs.declared.want.Want.{Want}
use Rattle.cluster_types.specs.Partitions.{partition_count}
use Rattle.journal_lines.specs.declared.line.Line.{Line}
use Rattle.journal_lines.specs.declared.line.Line.TheVariants as line
use Rattle.journal_lines.specs.declared.refusal.Refusal.{Refusal}
use Rattle.wire_messages.specs.declared.message.Message.TheVariants as message
use Rattle.wire_messages.specs.Decoding.{message_of}
use Rattle.wire_messages.proofs.DecodingLaws.{read_back}
use Rattle.wire_messages.specs.Requests.{IsWant}
use Rattle.wire_messages.specs.Versions.{IsDigest}
use Rattle.node_rules.specs.Effects.{sends_only, lines_only, to_one}
use Rattle.node_rules.specs.Exchange.{View, first_missing}
use Rattle.node_rules.specs.Facts.{Facts, members_of_view, list_at}
use Rattle.node_rules.specs.Map.{entry_of}
use Rattle.node_rules.specs.Requests.{due_request, map_refusal, view_refusal, exchange_refusal}
use Rattle.node_rules.specs.Standing.{acting_at}
use Rattle.node_rules.specs.Shows.{with_roles, map_line, map_if}
use Rattle.cluster_rules.specs.declared.event.Event.{Event}
use Rattle.cluster_rules.specs.declared.event.Event.TheVariants as event
use Rattle.cluster_rules.specs.DueEvents.{due_of, written, due_at_named, arriving, is_blocked, delivery}
use Rattle.cluster_rules.specs.Marks.{Begins, Writes, came}
use Rattle.journal_readings.specs.Messages.{Posting, arrived, arrived_cut}
use Rattle.cluster_rules.specs.Network.{posting_at, flying_at, landed}
use Rattle.cluster_rules.specs.World.{World}
use Rattle.cluster_laws.proofs.At.{some_same, no_some}
use Rattle.key_laws.proofs.DueSteps.{flying_posted}
use Rattle.node_rules.specs.Messages.{client}
use Rattle.run_laws.proofs.Reading.{reads_itself}
use Rattle.run_laws.specs.Fronts.{Front, world_of, facts_at, front_after, owed_at}
use Rattle.run_laws.specs.LineDue.{LineMay, LawOf, LawfulFront}
use Rattle.run_laws.specs.Spelled.{request_sends, arrived_sends, flying_sends, SendsRead, ViewsDeclared}
use Rattle.run_laws.specs.Steps.{Ended}
use Rattle.run_laws.proofs.Carried.{posting_same}
use Rattle.run_laws.proofs.DeliverSteps.{Landing, behind_line, with_line, facts_ended}
use Rattle.run_laws.proofs.Lawful.{lawful_line, lawful_begun}
use Rattle.run_laws.proofs.NodeSteps.{Now, effects_go, stands_in}
use Rattle.run_laws.specs.Spelled.{AreReadInRange}
use Rattle.run_laws.proofs.PlainSteps.{begins_ended}
use Rattle.run_laws.proofs.RequestSteps.{request_go}
use Rattle.run_laws.proofs.Turns.{LinesGo}
use Rattle.journal_lines.specs.declared.refusal.Refusal.TheVariants as refusal

-- ---- a message is delivered

one_ended : (z : Front) (l : Line) → Ended z → LineMay z l → Ended (front_after z (Writes l)) → LinesGo z (l ∷ [])
one_ended z l h ok e = record { due = (ok, tt); ends = e }

blocked_goes : (z : Front) (i : ℕ) → Ended z → LinesGo z (line.Blocked i ∷ [])
blocked_goes z i h = one_ended z (line.Blocked i) h (h.owes, tt) (record { owes = h.owes; stays = h.stays; rests = h.rests })

none_goes : (z : Front) (i : ℕ) → Ended z → LinesGo z (line.NoMessage i ∷ [])
none_goes z i h = one_ended z (line.NoMessage i) h (h.owes, tt) (record { owes = h.owes; stays = h.stays; rests = h.rests })

same_end : (z : Front) (i : ℕ) (p : Posting) → posting_at (world_of z).network i ≡ Some p → (q : Posting) → posting_at (world_of z).network i ≡ Some q → q.to ≡ p.to
same_end z i p posted q e = ap (λ (x : Posting). x.to) (some_same (sym e ∙ posted))

deliver_landing : (z : Front) (i : ℕ) (p : Posting) → Ended z → posting_at (world_of z).network i ≡ Some p → Landing z (line.Deliver i p.from p.to) p (message_of p.bytes)
deliver_landing z i p h posted = record {
  key = tt;
  due = (h.owes, same_end z i p posted);
  may = (h.owes, same_end z i p posted);
  number = i;
  posted = posted;
  world = ap (λ (o : Option Posting). came (world_of z) (option_and_then (arrived p.to) o)) posted;
  owed = ap (λ (o : Option Posting). owed_at (world_of z) (option_and_then (arrived p.to) o) z.owed) posted;
  closing = refl;
}

repeat_landing : (z : Front) (i : ℕ) (p : Posting) → Ended z → posting_at (world_of z).network i ≡ Some p → Landing z (line.Repeat i p.from p.to) p (message_of p.bytes)
repeat_landing z i p h posted = record {
  key = tt;
  due = (h.owes, same_end z i p posted);
  may = (h.owes, same_end z i p posted);
  number = i;
  posted = posted;
  world = ap (λ (o : Option Posting). came (world_of z) (option_and_then (arrived p.to) o)) posted;
  owed = ap (λ (o : Option Posting). owed_at (world_of z) (option_and_then (arrived p.to) o) z.owed) posted;
  closing = refl;
}

cut_landing : (z : Front) (i size : ℕ) (p : Posting) (b : Bool) → nat_le (length p.bytes) size ≡ b → Ended z → posting_at (world_of z).network i ≡ Some p → Landing z (line.Cut i p.from p.to size) p (if b then message_of p.bytes else None)
cut_landing z i size p b e h posted = record {
  key = tt;
  due = (h.owes, same_end z i p posted);
  may = (h.owes, same_end z i p posted);
  number = i;
  posted = posted;
  world = ap (λ (o : Option Posting). came (world_of z) (option_and_then (arrived_cut p.to size) o)) posted ∙ ap (λ (q : Bool). came (world_of z) (if q then arrived p.to p else None)) e ∙ ap (came (world_of z)) (inside b);
  owed = ap (λ (o : Option Posting). owed_at (world_of z) (option_and_then (arrived_cut p.to size) o) z.owed) posted ∙ ap (λ (q : Bool). owed_at (world_of z) (if q then arrived p.to p else None) z.owed) e ∙ ap (λ x. owed_at (world_of z) x z.owed) (inside b);
  closing = refl;
}
  where
    inside : (q : Bool) → (if q then arrived p.to p else None) ≡ option_map (λ m. record { from = p.from; to = p.to; message = m }) (if q then message_of p.bytes else None)
    inside true = refl
    inside false = refl

short_not : (a b : ℕ) → nat_lt a b ≡ true → nat_le b a ≡ false
short_not a b e = go (nat_le b a) refl
  where
    go : (q : Bool) → nat_le b a ≡ q → q ≡ false
    go false i = refl
    go true i = absurd (never (ltb-true a b e) (leb-true b a i))
      where
        never : a < b → b ≤ a → ⊥
        never x y = omega (arith, x, y)

long_is : (a b : ℕ) → nat_lt a b ≡ false → nat_le b a ≡ true
long_is a b e = le-leb b a (ltb-false a b e)

-- what a step begins with
pub record Starts (by : Policy) (factor : ℕ) (z : Front) : Type 0 where
  pub lawful : LawfulFront by factor z
  pub ended : Ended z
  pub declared : ViewsDeclared (world_of z)

pub begin : {by : Policy} {factor : ℕ} {z : Front} → Starts by factor z → (e : Event) → Starts by factor (front_after z (Begins e))
begin {by} {factor} {z} s e = record { lawful = (lawful_begun by factor z e s.lawful).lawful; ended = begins_ended z e s.ended; declared = s.declared }

pub deliver_goes : {by : Policy} {factor : ℕ} {z : Front} (i : ℕ) → Starts by factor z → SendsRead (world_of z) (event.Deliver i) → LinesGo (front_after z (Begins (event.Deliver i))) (due_of partition_count (world_of z) (event.Deliver i))
deliver_goes {by} {factor} {z} i s read = go (flying_at (world_of z).network i) refl read
  where
    t : Starts by factor (front_after z (Begins (event.Deliver i)))
    t = begin s (event.Deliver i)

    comes : (p : Posting) → posting_at (world_of z).network i ≡ Some p → AreReadInRange (arrived_sends (world_of z) p (message_of p.bytes)) → (b : Bool)
        → LinesGo (front_after z (Begins (event.Deliver i))) (if b then line.Blocked i ∷ [] else line.Deliver i p.from p.to ∷ arriving partition_count (world_of z) (landed (world_of z).network i) p)
    comes p posted r true = blocked_goes (front_after z (Begins (event.Deliver i))) i t.ended
    comes p posted r false =
        let g : Landing (front_after z (Begins (event.Deliver i))) (line.Deliver i p.from p.to) p (message_of p.bytes) = deliver_landing (front_after z (Begins (event.Deliver i))) i p t.ended (posting_same (landed (world_of z).network i) (world_of z).network refl i ∙ posted) in
        with_line (front_after z (Begins (event.Deliver i))) (line.Deliver i p.from p.to) (arriving partition_count (world_of z) (landed (world_of z).network i) p) g.may
        (behind_line by factor (front_after z (Begins (event.Deliver i))) (world_of z) (landed (world_of z).network i) (line.Deliver i p.from p.to) p refl refl refl t.lawful t.ended t.declared (message_of p.bytes) refl g r)

    go : (o : Option Posting) → flying_at (world_of z).network i ≡ o → AreReadInRange (flying_sends (world_of z) o)
        → LinesGo (front_after z (Begins (event.Deliver i))) (delivery (world_of z) i (λ p. line.Deliver i p.from p.to ∷ arriving partition_count (world_of z) (landed (world_of z).network i) p) o)
    go None e r = none_goes (front_after z (Begins (event.Deliver i))) i t.ended
    go (Some p) e r = comes p (flying_posted (world_of z).network i p e) r (is_blocked (world_of z) p)

pub repeat_goes : {by : Policy} {factor : ℕ} {z : Front} (i : ℕ) → Starts by factor z → SendsRead (world_of z) (event.Repeat i) → LinesGo (front_after z (Begins (event.Repeat i))) (due_of partition_count (world_of z) (event.Repeat i))
repeat_goes {by} {factor} {z} i s read = go (flying_at (world_of z).network i) refl read
  where
    t : Starts by factor (front_after z (Begins (event.Repeat i)))
    t = begin s (event.Repeat i)

    comes : (p : Posting) → posting_at (world_of z).network i ≡ Some p → AreReadInRange (arrived_sends (world_of z) p (message_of p.bytes)) → (b : Bool)
        → LinesGo (front_after z (Begins (event.Repeat i))) (if b then line.Blocked i ∷ [] else line.Repeat i p.from p.to ∷ arriving partition_count (world_of z) (world_of z).network p)
    comes p posted r true = blocked_goes (front_after z (Begins (event.Repeat i))) i t.ended
    comes p posted r false =
        let g : Landing (front_after z (Begins (event.Repeat i))) (line.Repeat i p.from p.to) p (message_of p.bytes) = repeat_landing (front_after z (Begins (event.Repeat i))) i p t.ended posted in
        with_line (front_after z (Begins (event.Repeat i))) (line.Repeat i p.from p.to) (arriving partition_count (world_of z) (world_of z).network p) g.may
        (behind_line by factor (front_after z (Begins (event.Repeat i))) (world_of z) (world_of z).network (line.Repeat i p.from p.to) p refl refl refl t.lawful t.ended t.declared (message_of p.bytes) refl g r)

    go : (o : Option Posting) → flying_at (world_of z).network i ≡ o → AreReadInRange (flying_sends (world_of z) o)
        → LinesGo (front_after z (Begins (event.Repeat i))) (delivery (world_of z) i (λ p. line.Repeat i p.from p.to ∷ arriving partition_count (world_of z) (world_of z).network p) o)
    go None e r = none_goes (front_after z (Begins (event.Repeat i))) i t.ended
    go (Some p) e r = comes p (flying_posted (world_of z).network i p e) r (is_blocked (world_of z) p)

pub cut_goes : {by : Policy} {factor : ℕ} {z : Front} (i size : ℕ) → Starts by factor z → SendsRead (world_of z) (event.Cut i size) → LinesGo (front_after z (Begins (event.Cut i size))) (due_of partition_count (world_of z) (event.Cut i size))
cut_goes {by} {factor} {z} i size s read = go (flying_at (world_of z).network i) refl read
  where
    t : Starts by factor (front_after z (Begins (event.Cut i size)))
    t = begin s (event.Cut i size)

    long : (p : Posting) → posting_at (world_of z).network i ≡ Some p → AreReadInRange (arrived_sends (world_of z) p (message_of p.bytes)) → (b : Bool) → nat_lt size (length p.bytes) ≡ b
        → LinesGo (front_after z (Begins (event.Cut i size))) (line.Cut i p.from p.to size ∷ (if b then line.Short p.to ∷ [] else arriving partition_count (world_of z) (landed (world_of z).network i) p))
    long p posted r true e =
        let g : Landing (front_after z (Begins (event.Cut i size))) (line.Cut i p.from p.to size) p None = cut_landing (front_after z (Begins (event.Cut i size))) i size p false (short_not size (length p.bytes) e) t.ended (posting_same (landed (world_of z).network i) (world_of z).network refl i ∙ posted) in
        let h : Ended (front_after (front_after z (Begins (event.Cut i size))) (Writes (line.Cut i p.from p.to size))) = facts_ended (front_after z (Begins (event.Cut i size))) _ t.ended (g.owed ∙ t.ended.owes) g.closing (λ n. ap (λ (x : World). x.facts n) g.world) in
        with_line (front_after z (Begins (event.Cut i size))) (line.Cut i p.from p.to size) (line.Short p.to ∷ []) g.may
        (one_ended _ (line.Short p.to) h (h.owes, tt) (record { owes = h.owes; stays = h.stays; rests = h.rests }))
    long p posted r false e =
        let g : Landing (front_after z (Begins (event.Cut i size))) (line.Cut i p.from p.to size) p (message_of p.bytes) = cut_landing (front_after z (Begins (event.Cut i size))) i size p true (long_is size (length p.bytes) e) t.ended (posting_same (landed (world_of z).network i) (world_of z).network refl i ∙ posted) in
        with_line (front_after z (Begins (event.Cut i size))) (line.Cut i p.from p.to size) (arriving partition_count (world_of z) (landed (world_of z).network i) p) g.may
        (behind_line by factor (front_after z (Begins (event.Cut i size))) (world_of z) (landed (world_of z).network i) (line.Cut i p.from p.to size) p refl refl refl t.lawful t.ended t.declared (message_of p.bytes) refl g r)

    comes : (p : Posting) → posting_at (world_of z).network i ≡ Some p → AreReadInRange (arrived_sends (world_of z) p (message_of p.bytes)) → (b : Bool)
        → LinesGo (front_after z (Begins (event.Cut i size))) (if b then line.Blocked i ∷ [] else line.Cut i p.from p.to size ∷ (if nat_lt size (length p.bytes) then line.Short p.to ∷ [] else arriving partition_count (world_of z) (landed (world_of z).network i) p))
    comes p posted r true = blocked_goes (front_after z (Begins (event.Cut i size))) i t.ended
    comes p posted r false = long p posted r (nat_lt size (length p.bytes)) refl

    go : (o : Option Posting) → flying_at (world_of z).network i ≡ o → AreReadInRange (flying_sends (world_of z) o)
        → LinesGo (front_after z (Begins (event.Cut i size))) (delivery (world_of z) i (λ p. line.Cut i p.from p.to size ∷ (if nat_lt size (length p.bytes) then line.Short p.to ∷ [] else arriving partition_count (world_of z) (landed (world_of z).network i) p)) o)
    go None e r = none_goes (front_after z (Begins (event.Cut i size))) i t.ended
    go (Some p) e r = comes p (flying_posted (world_of z).network i p e) r (is_blocked (world_of z) p)

-- ---- requests

pub at_node : {by : Policy} {factor : ℕ} {z : Front} (w : World) (n : ℕ) (d : List ℕ) (q : Want) → IsDigest d → IsWant q → Starts by factor z → (world_of z).want ≡ Some q → w.facts ≡ (world_of z).facts → w.clocks ≡ (world_of z).clocks → w.network.sent ≡ (world_of z).network.sent
    → AreReadInRange (due_request (w.facts n) (w.clocks n) d q).sends → LinesGo z (written w.network n (due_request (w.facts n) (w.clocks n) d q))
at_node {by} {factor} {z} w n d q digest fits s want fs cs net read = subst (λ (m : ℕ). LinesGo z (written w.network m (due_request (w.facts n) (w.clocks n) d q))) me
    (effects_go z w.network (w.facts n).me (due_request (w.facts n) (w.clocks n) d q) (ap length net)
    (request_go by factor z (w.facts n) d q (w.clocks n) digest fits (subst (λ (f : Facts). LawOf by factor f) (sym here) (s.lawful.nodes n))
    (record { is = ap (facts_at z) me ∙ sym here; stays = s.ended.stays (w.facts n).me; owes = s.ended.owes }) s.ended want (ap (λ (c : ℕ → ℕ). c n) cs ∙ ap (world_of z).clocks (sym me))
    (λ u e. s.declared (w.facts n).me u (ap (λ (m : ℕ). (facts_at z m).exchange.view) me ∙ ap (λ (f : Facts). f.exchange.view) (sym here) ∙ e)) read))
  where
    here : w.facts n ≡ facts_at z n
    here = ap (λ (f : ℕ → Facts). f n) fs

    me : (w.facts n).me ≡ n
    me = ap (λ (f : Facts). f.me) here ∙ (s.lawful.sound.nodes n).me

pub client_goes : {by : Policy} {factor : ℕ} {z : Front} (w : World) (o : Option ℕ) (d : List ℕ) (q : Want) → IsDigest d → IsWant q → Starts by factor z → (world_of z).want ≡ Some q → w.facts ≡ (world_of z).facts → w.clocks ≡ (world_of z).clocks → w.network.sent ≡ (world_of z).network.sent
    → AreReadInRange (request_sends w o d q) → LinesGo z (due_at_named w d q o)
client_goes {by} {factor} {z} w None d q digest fits s want fs cs net read = one_ended z _ s.ended (s.ended.owes, tt) (record { owes = s.ended.owes; stays = s.ended.stays; rests = s.ended.rests })
client_goes {by} {factor} {z} w (Some n) d q digest fits s want fs cs net read = with_line z (line.Client n d) _ (s.ended.owes, tt)
    (at_node {z = front_after z (Writes (line.Client n d))} w n d q digest fits (record {
      lawful = (lawful_client s.lawful s.ended);
      ended = record { owes = s.ended.owes; stays = s.ended.stays; rests = s.ended.rests };
      declared = s.declared;
    }) want fs cs net read)
  where
    lawful_client : LawfulFront by factor z → Ended z → LawfulFront by factor (front_after z (Writes (line.Client n d)))
    lawful_client l h = (lawful_line by factor z (line.Client n d) tt (h.owes, tt) l).lawful

-- ---- the client asks

pub ask_goes : {by : Policy} {factor : ℕ} {z : Front} (node : ℕ) → Starts by factor z → LinesGo (front_after z (Begins (event.Ask node))) (due_of partition_count (world_of z) (event.Ask node))
ask_goes {by} {factor} {z} node s = let t : Starts by factor (front_after z (Begins (event.Ask node))) = begin s (event.Ask node) in
    effects_go (front_after z (Begins (event.Ask node))) (world_of z).network client (sends_only (to_one node message.MapAsk)) refl
    (record { due = tt; sent = refl; sends = (record { plain = refl; read = reads_itself message.MapAsk (read_back message.MapAsk tt); due = tt }, tt); ends = t.ended })

-- ---- maps

record Mapped (f : Facts) : Type 0 where
  view : View
  is : f.exchange.view ≡ Some view
  none : first_missing f.exchange.rows view.members ≡ None

mapped : (f : Facts) → map_refusal f ≡ None → Mapped f
mapped f e = up f.up e
  where
    rows : (v : View) → f.exchange.view ≡ Some v → (o : Option ℕ) → first_missing f.exchange.rows v.members ≡ o → exchange_refusal o ≡ None → Mapped f
    rows v i None j q = record { view = v; is = i; none = j }
    rows v i (Some m) j q = no_some (sym q)

    view : (o : Option View) → f.exchange.view ≡ o → view_refusal f o ≡ None → Mapped f
    view None i q = no_some (sym q)
    view (Some v) i q = rows v i (first_missing f.exchange.rows v.members) refl q

    up : (b : Bool) → (if b then view_refusal f f.exchange.view else Some refusal.Down) ≡ None → Mapped f
    up true q = view f.exchange.view refl q
    up false q = no_some (sym q)

maps_go : (z : Front) (f : Facts) (v : View) (ps : List ℕ) → Now z f → f.exchange.view ≡ Some v → f.exchange.exchanged ≡ true → Ended z → LinesGo z (map (λ p. map_line f p (entry_of (list_at f p) f.exchange.rows p)) ps)
maps_go z f v [] w i x h = record { due = tt; ends = h }
maps_go z f v (p ∷ ps) w i x h = with_line z (map_line f p (entry_of (list_at f p) f.exchange.rows p)) _ (
  w.owes,
  record {
    stands = stands_in z f v w i;
    exchanged = ap (λ (g : Facts). g.exchange.exchanged) w.is ∙ x;
    shown = ap (λ (g : Facts). with_roles (members_of_view g) (list_at g p)) (sym w.is);
    acting = ap (λ (g : Facts). acting_at g (list_at g p) p) (sym w.is);
  },
)
    (maps_go (front_after z (Writes (map_line f p (entry_of (list_at f p) f.exchange.rows p)))) f v ps (record { is = w.is; stays = w.stays; owes = w.owes }) i x (record { owes = h.owes; stays = h.stays; rests = h.rests }))

pub map_goes : {by : Policy} {factor : ℕ} {z : Front} (node from to : ℕ) → Starts by factor z → LinesGo (front_after z (Begins (event.Map node from to))) (due_of partition_count (world_of z) (event.Map node from to))
map_goes {by} {factor} {z} node from to s = go (map_refusal (facts_at z node)) refl
  where
    t : Starts by factor (front_after z (Begins (event.Map node from to)))
    t = begin s (event.Map node from to)

    me : (facts_at z node).me ≡ node
    me = (s.lawful.sound.nodes node).me

    lines : (ls : List Line) → LinesGo (front_after z (Begins (event.Map node from to))) ls → LinesGo (front_after z (Begins (event.Map node from to))) (written (world_of z).network node (lines_only ls))
    lines ls g = subst (λ (xs : List Line). LinesGo (front_after z (Begins (event.Map node from to))) xs) (sym (no_more ls)) g
      where
        no_more : (xs : List Line) → xs ++ [] ≡ xs
        no_more [] = refl
        no_more (x ∷ xs) = ap (λ ys. x ∷ ys) (no_more xs)

    go : (o : Option Refusal) → map_refusal (facts_at z node) ≡ o → LinesGo (front_after z (Begins (event.Map node from to))) (written (world_of z).network node (lines_only (map_if (facts_at z node) from to o)))
    go (Some cause) e = lines _ (one_ended (front_after z (Begins (event.Map node from to))) _ t.ended (t.ended.owes, tt) (record { owes = t.ended.owes; stays = t.ended.stays; rests = t.ended.rests }))
    go None e = let m : Mapped (facts_at z node) = mapped (facts_at z node) e in
        lines _ (maps_go (front_after z (Begins (event.Map node from to))) (facts_at z node) m.view _ (record { is = ap (facts_at z) me; stays = t.ended.stays (facts_at z node).me; owes = t.ended.owes }) m.is ((s.ended.rests node).over m.view m.is m.none) t.ended)
