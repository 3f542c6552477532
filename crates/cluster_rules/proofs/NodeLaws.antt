-- The marks of a node's step make of its facts what the node's own rules make of them.
use Rattle.std.proofs.Common.{◌≡◌, ◌==◌, ℕ, ◌+◌, ◌<◌, ◌≤◌, Bool, true, false, List, [], ◌∷◌, ◌++◌, All, length, Option, Some, None, refl, sym, ap, ap₂, subst, ◌∙◌, arith, length-append}
use Rattle.std.specs.Prelude.{map, if◌then◌else◌}
use Rattle.std.proofs.lemmas.Bool.Decides.{nat_tests}
use Rattle.std.proofs.lemmas.List.Elements.{All-nil, All-cons, All-head, All-tail}
use Rattle.conflict_order.specs.declared.want.Want.{Want}
use Rattle.cluster_types.specs.Distinct.{without}
use Rattle.wire_messages.specs.declared.message.Message.{Message}
use Rattle.wire_messages.specs.Decoding.{message_of}
use Rattle.wire_messages.specs.Spelling.{spelling}
use Rattle.journal_lines.specs.declared.line.Line.{Line}
use Rattle.journal_lines.specs.declared.line.Line.TheVariants as line
use Rattle.node_rules.specs.Effects.{Effects}
use Rattle.node_rules.specs.Facts.{Facts}
use Rattle.node_rules.specs.Notes.{note, noted, sent, all_sent}
use Rattle.node_rules.specs.Steps.{after_tick}
use Rattle.node_rules.specs.Tick.{due_tick}
use Rattle.request_rules.specs.declared.taken.Asker.{Asker}
use Rattle.request_rules.specs.LineNotes.{all_requests_noted, requests_noted}
use Rattle.request_rules.specs.Requests.{Requests}
use Rattle.cluster_rules.specs.declared.event.Event.TheVariants as event
use Rattle.cluster_rules.specs.DueEvents.{sent_lines, written}
use Rattle.cluster_rules.specs.Marks.{Writes, after_line, after_all, event_begun, by_node, with_requests_if, sent_by}
use Rattle.journal_readings.specs.Messages.{Posting}
use Rattle.cluster_rules.specs.Network.{Network, posting, landed, has_place}
use Rattle.cluster_rules.specs.World.{World, changed_at, new_if}
use Rattle.cluster_rules.specs.NodeSteps.{IsOf, AreOf, AreRead, IsNumbered, Moves, sent_in, all_sent_in, after_step}

-- the last number is taken out again
without_new : (last i : ℕ) (ids : List ℕ) → last < i → All (λ j. j ≤ last) ids → without (ids ++ i ∷ []) i ≡ ids
without_new last i [] l h = grind (arith, nat_tests)
without_new last i (j ∷ ids) l h =
    let r : without (ids ++ i ∷ []) i ≡ ids = without_new last i ids l (All-tail (λ j. j ≤ last) j ids h) in
    let below : j ≤ last = All-head (λ j. j ≤ last) j ids h in
    grind (arith, nat_tests, r, below)

-- ---- other facts of one node

at_itself : (f : ℕ → Facts) (n : ℕ) (new : Facts) → changed_at f n new n ≡ new
at_itself f n new = let same : (n == n) ≡ true = grind (arith, nat_tests) in ap (new_if new f n) same

at_another : (f : ℕ → Facts) (n : ℕ) (new : Facts) (m : ℕ) → (n ≡ m → ⊥)
    → changed_at f n new m ≡ f m
at_another f n new m differ = let other : (n == m) ≡ false = grind (arith, nat_tests, differ) in ap (new_if new f m) other

-- nothing has happened
stays : (w : World) (n : ℕ) → Moves n (w.facts n) w.network w.requests w w
stays w n = record { here = refl; elsewhere = λ m d. refl; network = refl; requests = refl; nodes = refl; clocks = refl; tables = refl; want = refl; asker = refl }

-- the facts of that node are these, and the network is this
moved : (w : World) (n : ℕ) (new : Facts) (net : Network) → Moves n new net w.requests w (record w { facts = changed_at w.facts n new; network = net })
moved w n new net = record { here = at_itself w.facts n new; elsewhere = λ m d. at_another w.facts n new m d; network = refl; requests = refl; nodes = refl; clocks = refl; tables = refl; want = refl; asker = refl }

-- one after the other
onward : (u v w : World) (n : ℕ) (new : Facts) (net net' : Network) (rs rs' : Requests) (f : Facts) → Moves n f net rs u v → Moves n new net' rs' v w → Moves n new net' rs' u w
onward u v w n new net net' rs rs' f h k = record {
  here = k.here;
  elsewhere = λ m d. k.elsewhere m d ∙ h.elsewhere m d;
  network = k.network;
  requests = k.requests;
  nodes = k.nodes ∙ h.nodes;
  clocks = k.clocks ∙ h.clocks;
  tables = k.tables ∙ h.tables;
  want = k.want ∙ h.want;
  asker = k.asker ∙ h.asker;
}

-- the requests are other ones besides
requested : (w v : World) (n : ℕ) (new : Facts) (net : Network) (rs rs' : Requests) → Moves n new net rs w v → Moves n new net rs' w (record v { requests = rs' })
requested w v n new net rs rs' h = record {
  here = h.here;
  elsewhere = h.elsewhere;
  network = h.network;
  requests = refl;
  nodes = h.nodes;
  clocks = h.clocks;
  tables = h.tables;
  want = h.want;
  asker = h.asker;
}

-- ---- a line

by_it : (w : World) (m n : ℕ) (l : Line) → m ≡ n → Moves n (note w.want (w.facts n) l) w.network w.requests w (by_node w m l)
by_it w m n l e = subst (λ k. Moves n (note w.want (w.facts n) l) w.network w.requests w (by_node w k l)) (sym e) (moved w n (note w.want (w.facts n) l) w.network)

-- what a line makes of the requests
abbrev noted_in : World → Line → Requests
noted_in w l = requests_noted w.asker w.want w.requests l

-- a line that counts for the requests as well
by_both : (w : World) (m n : ℕ) (l : Line) → m ≡ n → Moves n (note w.want (w.facts n) l) w.network (noted_in w l) w (with_requests_if (by_node w m l) l true)
by_both w m n l e = requested w (by_node w m l) n (note w.want (w.facts n) l) w.network w.requests (noted_in w l) (by_it w m n l e)

-- a line that counts for the requests alone
asked : (w : World) (n : ℕ) (l : Line) → Moves n (w.facts n) w.network (noted_in w l) w (with_requests_if w l true)
asked w n l = requested w w n (w.facts n) w.network w.requests (noted_in w l) (stays w n)

told : (w : World) (n : ℕ) (l : Line) → IsOf n l → Moves n (note w.want (w.facts n) l) w.network (noted_in w l) w (after_line w l)
told w n (line.Clock m time) h = absurd h
told w n (line.Groups groups) h = absurd h
told w n (line.Deliver i a b) h = absurd h
told w n (line.Repeat i a b) h = absurd h
told w n (line.Cut i a b size) h = absurd h
told w n (line.Sent i a b bytes) h = absurd h
told w n (line.Full i) h = absurd h
told w n (line.Tick m) h = by_it w m n (line.Tick m) h
told w n (line.Stop m) h = by_both w m n (line.Stop m) h
told w n (line.Start m) h = by_it w m n (line.Start m) h
told w n (line.Quiesce m) h = by_it w m n (line.Quiesce m) h
told w n (line.Unquiesce m) h = by_it w m n (line.Unquiesce m) h
told w n (line.Promise m k) h = by_it w m n (line.Promise m k) h
told w n (line.Enter m k ms) h = by_both w m n (line.Enter m k ms) h
told w n (line.Exchanged m k) h = by_it w m n (line.Exchanged m k) h
told w n (line.Opened m k t d a) h = by_both w m n (line.Opened m k t d a) h
told w n (line.Value m k t d v) h = by_both w m n (line.Value m k t d v) h
told w n (line.Apply m k t d v) h = by_it w m n (line.Apply m k t d v) h
told w n (line.Done m k t) h = by_both w m n (line.Done m k t) h
told w n (line.Aborted m k t) h = by_it w m n (line.Aborted m k t) h
told w n (line.Doubt m k t) h = by_it w m n (line.Doubt m k t) h
told w n (line.Merge m k d v) h = by_it w m n (line.Merge m k d v) h
told w n (line.Handed m k p) h = by_it w m n (line.Handed m k p) h
told w n (line.Settled m k p) h = by_it w m n (line.Settled m k p) h
told w n (line.Learn m k p) h = by_it w m n (line.Learn m k p) h
told w n (line.Drop m k p) h = by_it w m n (line.Drop m k p) h
told w n (line.Refused m d cause) h = asked w n (line.Refused m d cause)
told w n (line.Proxy m k x d a to) h = asked w n (line.Proxy m k x d a to)
told w n (line.Proxied m k x b) h = asked w n (line.Proxied m k x b)
told w n (line.Unproxied m k x) h = asked w n (line.Unproxied m k x)
told w n (line.Call q m d a) h = asked w n (line.Call q m d a)
told w n (line.Reply q m b) h = asked w n (line.Reply q m b)
told w n (line.Scan s m p) h = asked w n (line.Scan s m p)
told w n l h = stays w n

pub lines_told : (w : World) (n : ℕ) (ls : List Line) → AreOf n ls → Moves n (noted w.want (w.facts n) ls) w.network (all_requests_noted w.asker w.want w.requests ls) w (after_all w (map Writes ls))
lines_told w n [] h = stays w n
lines_told w n (l ∷ ls) h =
    let v : World = after_line w l in
    let end : World = after_all v (map Writes ls) in
    let one : Moves n (note w.want (w.facts n) l) w.network (noted_in w l) w v = told w n l h.0 in
    let more : Moves n (noted v.want (v.facts n) ls) v.network (all_requests_noted v.asker v.want v.requests ls) v end = lines_told v n ls h.1 in
    let facts : noted v.want (v.facts n) ls ≡ noted w.want (note w.want (w.facts n) l) ls = ap₂ (λ (q : Option Want) f. noted q f ls) one.want one.here in
    let requests : all_requests_noted v.asker v.want v.requests ls ≡ all_requests_noted w.asker w.want (noted_in w l) ls =
    ap (λ (a : Option Asker). all_requests_noted a v.want v.requests ls) one.asker ∙ ap₂ (λ (q : Option Want) (rs : Requests). all_requests_noted w.asker q rs ls) one.want one.requests in
    onward w v end n _ w.network w.network _ _ _ one
    (subst (λ f. Moves n f w.network (all_requests_noted w.asker w.want (noted_in w l) ls) v end) facts
    (subst (λ rs. Moves n (noted v.want (v.facts n) ls) w.network rs v end) requests
    (subst (λ net. Moves n (noted v.want (v.facts n) ls) net (all_requests_noted v.asker v.want v.requests ls) v end) one.network more)))

-- ---- messages

after_both : (w : World) (xs ys : List Line) → after_all w (map Writes (xs ++ ys)) ≡ after_all (after_all w (map Writes xs)) (map Writes ys)
after_both w [] ys = refl
after_both w (x ∷ xs) ys = after_both (after_line w x) xs ys

-- one message, and where it has no place the line that says so
one_told : (w : World) (n : ℕ) (m : ℕ × Message) (b : Bool) (i : ℕ) (ls : List Line) → message_of (spelling m.1) ≡ Some m.1
    → Moves n (sent (w.facts n) m.0 m.1) (if b then posting w.network i (record { from = n; to = m.0; bytes = spelling m.1 }) else landed (posting w.network i (record { from = n; to = m.0; bytes = spelling m.1 })) i) w.requests w
    (after_all w (map Writes (line.Sent i n m.0 (spelling m.1) ∷ (if b then [] else line.Full i ∷ []))))
one_told w n m true i ls read =
    let p : Posting = record { from = n; to = m.0; bytes = spelling m.1 } in
    subst (λ (o : Option Message). Moves n (sent (w.facts n) m.0 m.1) (posting w.network i p) w.requests w (sent_by (record w { network = posting w.network i p }) n m.0 o)) (sym read)
    (moved w n (sent (w.facts n) m.0 m.1) (posting w.network i p))
one_told w n m false i ls read =
    let p : Posting = record { from = n; to = m.0; bytes = spelling m.1 } in
    subst (λ (o : Option Message). Moves n (sent (w.facts n) m.0 m.1) (landed (posting w.network i p) i) w.requests w (after_line (sent_by (record w { network = posting w.network i p }) n m.0 o) (line.Full i))) (sym read)
    (moved w n (sent (w.facts n) m.0 m.1) (landed (posting w.network i p) i))

weaker : (a b : ℕ) (js : List ℕ) → a ≤ b → All (λ j. j ≤ a) js → All (λ j. j ≤ b) js
weaker a b [] l h = All-nil (λ j. j ≤ b)
weaker a b (j ∷ js) l h =
    let low : j ≤ a = All-head (λ j. j ≤ a) j js h in
    All-cons (λ j. j ≤ b) j js (omega (arith, l, low)) (weaker a b js l (All-tail (λ j. j ≤ a) j js h))

last_too : (a : ℕ) (js : List ℕ) (i : ℕ) → All (λ j. j ≤ a) js → i ≤ a → All (λ j. j ≤ a) (js ++ i ∷ [])
last_too a [] i h l = All-cons (λ j. j ≤ a) i [] l (All-nil (λ j. j ≤ a))
last_too a (j ∷ js) i h l = All-cons (λ j. j ≤ a) j (js ++ i ∷ []) (All-head (λ j. j ≤ a) j js h) (last_too a js i (All-tail (λ j. j ≤ a) j js h) l)

-- how many are in flight then, and all stay numbered
pub record Counts (net : Network) (b : Bool) (new : Network) : Type 0 where
  pub sent : length new.sent ≡ length net.sent + 1
  pub flying : length new.flying ≡ (if b then (length net.flying) + 1 else length net.flying)
  pub numbered : IsNumbered new

counted : (net : Network) (p : Posting) (b : Bool) → IsNumbered net → Counts net b (if b then posting net (length net.sent + 1) p else landed (posting net (length net.sent + 1) p) (length net.sent + 1))
counted net p true h =
    let more : length (net.sent ++ p ∷ []) ≡ length net.sent + 1 = length-append net.sent (p ∷ []) in
    let low : All (λ j. j ≤ length (net.sent ++ p ∷ [])) net.flying = weaker (length net.sent) (length (net.sent ++ p ∷ [])) net.flying (omega (arith, more)) h.upto in
    record {
      sent = more;
      flying = length-append net.flying ((length net.sent + 1) ∷ []);
      numbered = record { upto = last_too (length (net.sent ++ p ∷ [])) net.flying (length net.sent + 1) low (omega (arith, more)) };
    }
counted net p false h =
    let more : length (net.sent ++ p ∷ []) ≡ length net.sent + 1 = length-append net.sent (p ∷ []) in
    let gone : without (net.flying ++ (length net.sent + 1) ∷ []) (length net.sent + 1) ≡ net.flying = without_new (length net.sent) (length net.sent + 1) net.flying (omega arith) h.upto in
    record {
      sent = more;
      flying = ap length gone;
      numbered = record { upto = subst (λ js. All (λ j. j ≤ length (net.sent ++ p ∷ [])) js) (sym gone) (weaker (length net.sent) (length (net.sent ++ p ∷ [])) net.flying (omega (arith, more)) h.upto) };
    }

pub sends_told : (w : World) (n : ℕ) (ms : List (ℕ × Message)) → AreRead ms → IsNumbered w.network
    → Moves n (all_sent (w.facts n) ms) (all_sent_in w.network n ms) w.requests w (after_all w (map Writes (sent_lines n (length w.network.sent) (length w.network.flying) ms)))
sends_told w n [] h k = stays w n
sends_told w n (m ∷ ms) h k =
    let b : Bool = has_place (length w.network.flying) in
    let i : ℕ = length w.network.sent + 1 in
    let p : Posting = record { from = n; to = m.0; bytes = spelling m.1 } in
    let first : List Line = line.Sent i n m.0 (spelling m.1) ∷ (if b then [] else line.Full i ∷ []) in
    let rest : List Line = sent_lines n i (if b then (length w.network.flying) + 1 else length w.network.flying) ms in
    let v : World = after_all w (map Writes first) in
    let one : Moves n (sent (w.facts n) m.0 m.1) (sent_in w.network p) w.requests w v = one_told w n m b i [] h.0 in
    let count : Counts w.network b (sent_in w.network p) = counted w.network p b k in
    let lines : sent_lines n (length v.network.sent) (length v.network.flying) ms ≡ rest =
    ap (λ (net : Network). sent_lines n (length net.sent) (length net.flying) ms) one.network ∙ ap₂ (λ s f. sent_lines n s f ms) count.sent count.flying in
    let more : Moves n (all_sent (v.facts n) ms) (all_sent_in v.network n ms) v.requests v (after_all v (map Writes (sent_lines n (length v.network.sent) (length v.network.flying) ms))) =
    sends_told v n ms h.1 (subst IsNumbered (sym one.network) count.numbered) in
    let end : World = after_all v (map Writes rest) in
    let next : Moves n (all_sent (sent (w.facts n) m.0 m.1) ms) (all_sent_in (sent_in w.network p) n ms) w.requests v end =
    subst (λ f. Moves n (all_sent f ms) (all_sent_in (sent_in w.network p) n ms) w.requests v end) one.here
    (subst (λ rs. Moves n (all_sent (v.facts n) ms) (all_sent_in (sent_in w.network p) n ms) rs v end) one.requests
    (subst (λ net. Moves n (all_sent (v.facts n) ms) (all_sent_in net n ms) v.requests v end) one.network
    (subst (λ ls. Moves n (all_sent (v.facts n) ms) (all_sent_in v.network n ms) v.requests v (after_all v (map Writes ls))) lines more))) in
    subst (λ u. Moves n (all_sent (sent (w.facts n) m.0 m.1) ms) (all_sent_in (sent_in w.network p) n ms) w.requests w u)
    (sym (after_both w first rest))
    (onward w v end n _ _ _ _ _ _ one next)

-- ---- a node's step

-- what a node does: the world's marks of it make of the node's facts what the node's rules do
pub node_step : (w : World) (n : ℕ) (e : Effects) → AreOf n e.lines → AreRead e.sends → IsNumbered w.network
    → Moves n (all_sent (noted w.want (w.facts n) e.lines) e.sends) (all_sent_in w.network n e.sends) (all_requests_noted w.asker w.want w.requests e.lines) w (after_all w (map Writes (written w.network n e)))
node_step w n e own read k =
    let v : World = after_all w (map Writes e.lines) in
    let kept : Requests = all_requests_noted w.asker w.want w.requests e.lines in
    let one : Moves n (noted w.want (w.facts n) e.lines) w.network kept w v = lines_told w n e.lines own in
    let lines : sent_lines n (length v.network.sent) (length v.network.flying) e.sends ≡ sent_lines n (length w.network.sent) (length w.network.flying) e.sends =
    ap (λ (net : Network). sent_lines n (length net.sent) (length net.flying) e.sends) one.network in
    let end : World = after_all v (map Writes (sent_lines n (length w.network.sent) (length w.network.flying) e.sends)) in
    let more : Moves n (all_sent (v.facts n) e.sends) (all_sent_in v.network n e.sends) v.requests v end =
    subst (λ ls. Moves n (all_sent (v.facts n) e.sends) (all_sent_in v.network n e.sends) v.requests v (after_all v (map Writes ls))) lines
    (sends_told v n e.sends read (subst IsNumbered (sym one.network) k)) in
    let next : Moves n (all_sent (noted w.want (w.facts n) e.lines) e.sends) (all_sent_in w.network n e.sends) kept v end =
    subst (λ f. Moves n (all_sent f e.sends) (all_sent_in w.network n e.sends) kept v end) one.here
    (subst (λ rs. Moves n (all_sent (v.facts n) e.sends) (all_sent_in w.network n e.sends) rs v end) one.requests
    (subst (λ net. Moves n (all_sent (v.facts n) e.sends) (all_sent_in net n e.sends) v.requests v end) one.network more)) in
    subst (λ u. Moves n (all_sent (noted w.want (w.facts n) e.lines) e.sends) (all_sent_in w.network n e.sends) kept w u)
    (sym (after_both w e.lines (sent_lines n (length w.network.sent) (length w.network.flying) e.sends)))
    (onward w v end n _ _ _ _ _ _ one next)

-- a tick
pub tick_step : (w : World) (n : ℕ) → AreOf n (due_tick (w.facts n)).lines → AreRead (due_tick (w.facts n)).sends → IsNumbered w.network
    → Moves n (after_tick (w.facts n)) (all_sent_in w.network n (due_tick (w.facts n)).sends) (all_requests_noted None None w.requests (due_tick (w.facts n)).lines) (event_begun w (event.Tick n)) (after_step w (event.Tick n))
tick_step w n own read k = node_step (event_begun w (event.Tick n)) n
    (due_tick (w.facts n)) own read k
