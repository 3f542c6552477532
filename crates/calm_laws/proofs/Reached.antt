-- In every world that due steps reach the numbers in flight were given and stand once, and each node's facts are its
-- own.
use Rattle.std.proofs.Common.{◌≡◌, ℕ, ◌+◌, ◌-◌, ◌==◌, ◌||◌, not, Bool, true, false, cond, nat_lt, List, [], ◌∷◌, ◌++◌, map, length, Option, Some, None, refl, sym, ap, subst, ◌∙◌, arith, length-append}
use Rattle.std.specs.Prelude.{fold, option_and_then, if◌then◌else◌}
use Rattle.std.specs.List.{range_with_len}
use Rattle.conflict_order.specs.declared.want.Want.{Want}
use Rattle.conflict_order.specs.declared.want.Want.TheVariants as want
use Rattle.cluster_types.specs.Distinct.{without}
use Rattle.cluster_types.specs.Partitions.{partition_of}
use Rattle.journal_lines.specs.declared.line.Line.{Line}
use Rattle.journal_lines.specs.declared.line.Line.TheVariants as line
use Rattle.journal_lines.specs.declared.refusal.Refusal.{Refusal}
use Rattle.wire_messages.specs.declared.message.Message.{Message}
use Rattle.wire_messages.specs.declared.message.Message.TheVariants as message
use Rattle.wire_messages.specs.Decoding.{message_of}
use Rattle.node_rules.specs.Copies.{is_nil}
use Rattle.node_rules.specs.Effects.{Effects, sends_only, to_one, lines_only}
use Rattle.node_rules.specs.Entering.{ending, closing}
use Rattle.node_rules.specs.Facts.{Facts, view_key, list_at}
use Rattle.node_rules.specs.Map.{entry_of}
use Rattle.node_rules.specs.Messages.{due_message_of, client}
use Rattle.node_rules.specs.Notes.{opening_transaction}
use Rattle.node_rules.specs.Requests.{asking, request_if, due_request, request_refusal, map_refusal, due_stop, due_start}
use Rattle.node_rules.specs.Resolving.{resolving_want}
use Rattle.node_rules.specs.Shows.{map_line, map_if, due_map, due_show}
use Rattle.node_rules.specs.Standing.{other_replicas}
use Rattle.node_rules.specs.Tick.{tick_of}
use Rattle.node_rules.specs.Transactions.{Transaction, Write}
use Rattle.cluster_rules.specs.declared.event.Event.{Event}
use Rattle.cluster_rules.specs.declared.event.Event.TheVariants as event
use Rattle.node_rules.specs.Client.{node_for}
use Rattle.cluster_rules.specs.DueEvents.{sent_lines, written, due_at_node, due_at_named, due_at_client, due_arrival, arriving, is_blocked, delivery, losing, due_of}
use Rattle.journal_readings.specs.Lines.{has_node}
use Rattle.cluster_rules.specs.Marks.{Mark, Begins, Writes, event_begun, taken_by, came, came_to_client, sent_by, posted_by, after_line, after_all, lines_among, came_to_node}
use Rattle.journal_readings.specs.Messages.{Posting, Arrival, arrived, arrived_cut}
use Rattle.cluster_rules.specs.Network.{Network, has_place, landed, posting, posting_at, flying_at}
use Rattle.cluster_rules.specs.Opening.{Header}
use Rattle.cluster_rules.specs.Steps.{Step, marks_of, all_marks, AreDue, play}
use Rattle.cluster_rules.specs.World.{World, opened}
use Rattle.cluster_rules.proofs.KeptFacts.{Kept, kept_of, own_step, is_own, kept_step, marks_kept}
use Rattle.cluster_rules.proofs.MarkLaws.{after_all-append}
use Rattle.cluster_laws.proofs.At.{differ}
use Rattle.run_laws.proofs.Carried.{taken_sent}
use Rattle.calm_laws.specs.Flows.{Named, AreGiven, InOrder}
use Rattle.calm_laws.proofs.Flow.{numbered_more}
use Rattle.calm_laws.proofs.Own.{OwnLines, tick_own, message_own}
use Rattle.node_rules.specs.Tables.{only_if}

-- ---- lines that post in order

-- each message has the next number
abbrev Fits : ℕ → List Line → Type 0
Fits s [] = Unit {0}
Fits s (line.Sent i a b bytes ∷ ls) = (i ≡ s + 1) × Fits (s + 1) ls
Fits s (_ ∷ ls) = Fits s ls

-- no message is sent, and the network isn't divided
abbrev pub Unsent : List Line → Type 0
Unsent [] = Unit {0}
Unsent (line.Sent i a b bytes ∷ ls) = ⊥
Unsent (line.Groups groups ∷ ls) = ⊥
Unsent (_ ∷ ls) = Unsent ls

unsent_fits : (s : ℕ) (ls ms : List Line) → Unsent ls → Fits s ms → Fits s (ls ++ ms)
unsent_fits s [] ms h f = f
unsent_fits s (line.Sent i a b bytes ∷ ls) ms h f = absurd h
unsent_fits s (line.Groups groups ∷ ls) ms h f = absurd h
unsent_fits s (_ ∷ ls) ms h f = unsent_fits s ls ms h f

unsent_append : (ls ms : List Line) → Unsent ls → Unsent ms → Unsent (ls ++ ms)
unsent_append [] ms h i = i
unsent_append (line.Sent j a b bytes ∷ ls) ms h i = absurd h
unsent_append (line.Groups groups ∷ ls) ms h i = absurd h
unsent_append (_ ∷ ls) ms h i = unsent_append ls ms h i

pub own_unsent : (a : ℕ) (ls : List Line) → OwnLines a ls → Unsent ls
own_unsent a [] h = tt
own_unsent a (line.Sent j b c bytes ∷ ls) h = absurd h.0
own_unsent a (line.Groups groups ∷ ls) h = absurd h.0
own_unsent a (_ ∷ ls) h = own_unsent a ls h.1

fits_sents : (ms : List (ℕ × Message)) (a s fl : ℕ) → Fits s (sent_lines a s fl ms)
fits_sents [] a s fl = tt
fits_sents (m ∷ ms) a s fl = (refl, go (has_place fl) (λ k. fits_sents ms a (s + 1) k))
  where
    go : (b : Bool) → ((k : ℕ) → Fits (s + 1) (sent_lines a (s + 1) k ms)) → Fits (s + 1) ((if b then [] else line.Full (s + 1) ∷ []) ++ sent_lines a (s + 1) (if b then fl + 1 else fl) ms)
    go true rest = rest (fl + 1)
    go false rest = rest fl

written_fits : (net : Network) (a : ℕ) (e : Effects) → Unsent e.lines → Fits (length net.sent) (written net a e)
written_fits net a e h = unsent_fits (length net.sent) e.lines _ h (fits_sents e.sends a (length net.sent) (length net.flying))

-- ---- requests and what is shown

done_unsent : (f : Facts) (number : ℕ) (b : Bool) → Unsent (only_if (line.Done f.me (view_key f) number) b)
done_unsent f number true = tt
done_unsent f number false = tt

resolving_unsent : (f : Facts) (clock : ℕ) (l : List ℕ) (t : Transaction) (w : Want) → Unsent (resolving_want f clock l t w).lines
resolving_unsent f clock l t want.Get = tt
resolving_unsent f clock l t (want.Put bytes) = done_unsent f t.number (is_nil (other_replicas f l))
resolving_unsent f clock l t want.Del = done_unsent f t.number (is_nil (other_replicas f l))

asking_unsent : (f : Facts) (clock : ℕ) (l : List ℕ) (t : Transaction) (ns : List ℕ) → Unsent (asking f clock l t ns).lines
asking_unsent f clock l t [] = resolving_unsent f clock l t t.want
asking_unsent f clock l t (n ∷ ns) = tt

pub request_unsent : (f : Facts) (clock : ℕ) (l d : List ℕ) (w : Want) (o : Option Refusal) → Unsent (request_if f clock l d w o).lines
request_unsent f clock l d w (Some cause) = tt
request_unsent f clock l d w None = asking_unsent f clock l (opening_transaction f l (f.transactions.opened + 1) d w) (opening_transaction f l (f.transactions.opened + 1) d w).awaiting

closing_unsent : (f : Facts) (xs : List Transaction) → Unsent (map (λ (t : Transaction). ending f.me (view_key f) t.number t.applied) xs)
closing_unsent f [] = tt
closing_unsent f (x ∷ xs) = go x.applied (closing_unsent f xs)
  where
    go : (o : Option Write) → Unsent (map (λ (t : Transaction). ending f.me (view_key f) t.number t.applied) xs) → Unsent (ending f.me (view_key f) x.number o ∷ map (λ (t : Transaction). ending f.me (view_key f) t.number t.applied) xs)
    go None rest = rest
    go (Some w) rest = rest

pub stop_unsent : (f : Facts) (b : Bool) → Unsent (if b then lines_only (closing f ++ line.Stop f.me ∷ []) else lines_only (line.Down f.me ∷ [])).lines
stop_unsent f true = unsent_append (closing f) (line.Stop f.me ∷ []) (closing_unsent f f.transactions.running) tt
stop_unsent f false = tt

pub start_unsent : (f : Facts) (b : Bool) → Unsent (if b then lines_only (line.Up f.me ∷ []) else lines_only (line.Start f.me ∷ [])).lines
start_unsent f true = tt
start_unsent f false = tt

maps_unsent : (f : Facts) (ps : List ℕ) → Unsent (map (λ p. map_line f p (entry_of (list_at f p) f.exchange.rows p)) ps)
maps_unsent f [] = tt
maps_unsent f (p ∷ ps) = maps_unsent f ps

pub map_unsent : (f : Facts) (from to : ℕ) (o : Option Refusal) → Unsent (map_if f from to o)
map_unsent f from to (Some cause) = tt
map_unsent f from to None = maps_unsent f (range_with_len from (to + 1 - from))

-- ---- events

at_node_fits : (w : World) (n : ℕ) (d : List ℕ) (q : Want) → Fits (length w.network.sent) (due_at_node w n d q)
at_node_fits w n d q =
    let f : Facts = w.facts n in
    written_fits w.network n (due_request f (w.clocks n) d q) (request_unsent f (w.clocks n) (list_at f (partition_of d)) d q (request_refusal f (list_at f (partition_of d)) d))

named_fits : (w : World) (d : List ℕ) (q : Want) (o : Option ℕ) → Fits (length w.network.sent) (due_at_named w d q o)
named_fits w d q None = tt
named_fits w d q (Some n) = at_node_fits w n d q

client_fits : (s : ℕ) (m : Message) → Fits s (due_at_client m)
client_fits s (message.MapTable t) = tt
client_fits s m = tt

arriving_fits : (n : ℕ) (w : World) (net : Network) (p : Posting) → Fits (length net.sent) (arriving n w net p)
arriving_fits n w net p = go (message_of p.bytes)
  where
    at_end : (m : Message) (b : Bool) → Fits (length net.sent) (if b then due_at_client m else written net p.to (due_message_of n (w.facts p.to) (w.clocks p.to) p.from m))
    at_end m true = client_fits (length net.sent) m
    at_end m false = written_fits net p.to (due_message_of n (w.facts p.to) (w.clocks p.to) p.from m) (own_unsent (w.facts p.to).me _ (message_own n (w.facts p.to) (w.clocks p.to) p.from m))

    go : (o : Option Message) → Fits (length net.sent) (due_arrival n w net p o)
    go None = tt
    go (Some m) = at_end m (p.to == client)

cut_fits : (n : ℕ) (w : World) (net : Network) (p : Posting) (b : Bool) → Fits (length net.sent) (if b then line.Short p.to ∷ [] else arriving n w net p)
cut_fits n w net p true = tt
cut_fits n w net p false = arriving_fits n w net p

delivery_fits : (w : World) (i s : ℕ) (lines : Posting → List Line) → ((p : Posting) → Fits s (lines p)) → (o : Option Posting) → Fits s (delivery w i lines o)
delivery_fits w i s lines h None = tt
delivery_fits w i s lines h (Some p) = go (is_blocked w p)
  where
    go : (b : Bool) → Fits s (if b then line.Blocked i ∷ [] else lines p)
    go true = tt
    go false = h p

lose_fits : (s i : ℕ) (o : Option Posting) → Fits s (losing i o)
lose_fits s i None = tt
lose_fits s i (Some p) = tt

due_fits : (n : ℕ) (w : World) (e : Event) → Fits (length w.network.sent) (due_of n w e)
due_fits n w (event.Tick node) = written_fits w.network node (tick_of n (w.facts node)) (own_unsent (w.facts node).me _ (tick_own n (w.facts node)))
due_fits n w (event.Stop node) = written_fits w.network node (due_stop (w.facts node)) (stop_unsent (w.facts node) (w.facts node).up)
due_fits n w (event.Start node) = written_fits w.network node (due_start (w.facts node)) (start_unsent (w.facts node) (w.facts node).up)
due_fits n w (event.Put node d v) = at_node_fits w node d (want.Put v)
due_fits n w (event.Get node d) = at_node_fits w node d want.Get
due_fits n w (event.Del node d) = at_node_fits w node d want.Del
due_fits n w (event.ClientPut d v) = named_fits w d (want.Put v) (node_for w.tables (partition_of d))
due_fits n w (event.ClientGet d) = named_fits w d want.Get (node_for w.tables (partition_of d))
due_fits n w (event.ClientDel d) = named_fits w d want.Del (node_for w.tables (partition_of d))
due_fits n w (event.Ask node) = written_fits w.network client (sends_only (to_one node message.MapAsk)) tt
due_fits n w (event.Deliver i) = delivery_fits w i (length w.network.sent) _ (λ p. arriving_fits n w (landed w.network i) p) (flying_at w.network i)
due_fits n w (event.Repeat i) = delivery_fits w i (length w.network.sent) _ (λ p. arriving_fits n w w.network p) (flying_at w.network i)
due_fits n w (event.Cut i size) = delivery_fits w i (length w.network.sent) _ (λ p. cut_fits n w (landed w.network i) p (nat_lt size (length p.bytes))) (flying_at w.network i)
due_fits n w (event.Lose i) = lose_fits (length w.network.sent) i (flying_at w.network i)
due_fits n w (event.Map node from to) = written_fits w.network node (due_map (w.facts node) from to) (map_unsent (w.facts node) from to (map_refusal (w.facts node)))
due_fits n w (event.Show node d) = written_fits w.network node (due_show (w.facts node) d) tt
due_fits n w _ = tt

-- ---- numbers in flight

hasnt_without : (fl : List ℕ) (i j : ℕ) → has_node fl j ≡ false → has_node (without fl i) j ≡ false
hasnt_without [] i j e = refl
hasnt_without (x ∷ fl) i j e = go (x == j) refl e (hasnt_without fl i j)
  where
    kept : (b : Bool) → (x == j) ≡ false → has_node (without fl i) j ≡ false → has_node (cond (not b) (x ∷ without fl i) (without fl i)) j ≡ false
    kept true s f = f
    kept false s f = ap (λ (c : Bool). c || has_node (without fl i) j) s ∙ f

    go : (c : Bool) → (x == j) ≡ c → (c || has_node fl j) ≡ false → (has_node fl j ≡ false → has_node (without fl i) j ≡ false) → has_node (without (x ∷ fl) i) j ≡ false
    go true s f rest = differ refl f
    go false s f rest = kept (x == i) s (rest f)

numbered_without : (s : ℕ) (fl : List ℕ) (i : ℕ) → AreGiven s fl → AreGiven s (without fl i)
numbered_without s [] i h = tt
numbered_without s (x ∷ fl) i h = go (x == i) (numbered_without s fl i h.3)
  where
    go : (b : Bool) → AreGiven s (without fl i) → AreGiven s (cond (not b) (x ∷ without fl i) (without fl i))
    go true rest = rest
    go false rest = (hasnt_without fl i x h.0, h.1, h.2, rest)

came_net : (w : World) (x : Option Arrival) → (came w x).network ≡ w.network
came_net w None = refl
came_net w (Some x) = go (x.to == client)
  where
    at_client : (m : Message) → (came_to_client w m).network ≡ w.network
    at_client (message.MapTable t) = refl
    at_client m = refl

    go : (b : Bool) → (if b then came_to_client w x.message else came_to_node w x).network ≡ w.network
    go true = at_client x.message
    go false = refl

abbrev NetOrder : Network → Type 0
NetOrder net = AreGiven (length net.sent) net.flying

sent_net : (w : World) (a b : ℕ) (o : Option Message) → (sent_by w a b o).network ≡ w.network
sent_net w a b None = refl
sent_net w a b (Some m) = refl

posted_order : (net : Network) (i : ℕ) (p : Posting) → i ≡ length net.sent + 1 → NetOrder net → NetOrder (posting net i p)
posted_order net i p e h =
    let longer : length (net.sent ++ p ∷ []) ≡ length net.sent + 1 = length-append net.sent (p ∷ []) in
    subst (λ (k : ℕ). AreGiven (length (net.sent ++ p ∷ [])) (net.flying ++ k ∷ [])) (sym e)
    (numbered_more net.flying (length net.sent) (length (net.sent ++ p ∷ [])) (p ∷ []) (omega (arith, longer)) h)

lines_order : (ls : List Line) (w : World) → Fits (length w.network.sent) ls → InOrder w → InOrder (after_all w (map Writes ls))
lines_order [] w f h = h
lines_order (line.Sent i a b bytes ∷ ls) w f h =
    let p : Posting = record { from = a; to = b; bytes = bytes } in
    let u : World = record w { network = posting w.network i p } in
    let same : (posted_by w i p).network ≡ posting w.network i p = sent_net u a b (message_of bytes) in
    let longer : length w.network.sent + 1 ≡ length (posted_by w i p).network.sent = sym (ap (λ (x : Network). length x.sent) same ∙ length-append w.network.sent (p ∷ [])) in
    lines_order ls (posted_by w i p) (subst (λ (k : ℕ). Fits k ls) longer f.1) (subst NetOrder (sym same) (posted_order w.network i p f.0 h))
lines_order (line.Full i ∷ ls) w f h = lines_order ls (after_line w (line.Full i)) f (numbered_without (length w.network.sent) w.network.flying i h)
lines_order (line.Deliver i a b ∷ ls) w f h =
    let same : (after_line w (line.Deliver i a b)).network ≡ w.network = came_net w (option_and_then (arrived b) (posting_at w.network i)) in
    lines_order ls (after_line w (line.Deliver i a b)) (subst (λ (x : Network). Fits (length x.sent) ls) (sym same) f) (subst NetOrder (sym same) h)
lines_order (line.Repeat i a b ∷ ls) w f h =
    let same : (after_line w (line.Repeat i a b)).network ≡ w.network = came_net w (option_and_then (arrived b) (posting_at w.network i)) in
    lines_order ls (after_line w (line.Repeat i a b)) (subst (λ (x : Network). Fits (length x.sent) ls) (sym same) f) (subst NetOrder (sym same) h)
lines_order (line.Cut i a b size ∷ ls) w f h =
    let same : (after_line w (line.Cut i a b size)).network ≡ w.network = came_net w (option_and_then (arrived_cut b size) (posting_at w.network i)) in
    lines_order ls (after_line w (line.Cut i a b size)) (subst (λ (x : Network). Fits (length x.sent) ls) (sym same) f) (subst NetOrder (sym same) h)
lines_order (l ∷ ls) w f h = lines_order ls (after_line w l) f h

begun_order : (net : Network) (e : Event) → NetOrder net → NetOrder (taken_by net e)
begun_order net (event.Deliver i) h = numbered_without (length net.sent) net.flying i h
begun_order net (event.Lose i) h = numbered_without (length net.sent) net.flying i h
begun_order net (event.Cut i size) h = numbered_without (length net.sent) net.flying i h
begun_order net e h = h

-- each event keeps the order
pub step_order : (n : ℕ) (w : World) (e : Event) → InOrder w → InOrder (play n e w).world
step_order n w e h =
    lines_order (due_of n w e) (event_begun w e) (subst (λ (ps : List Posting). Fits (length ps) (due_of n w e)) (sym (taken_sent w.network e)) (due_fits n w e)) (begun_order w.network e h)

pub steps_order : (n : ℕ) (ss : List Step) (w : World) → AreDue n w ss → InOrder w → InOrder (after_all w (all_marks ss))
steps_order n [] w d h = h
steps_order n (s ∷ ss) w d h =
    let u : World = after_all w (marks_of s) in
    let one : InOrder u = subst (λ (ls : List Line). InOrder (after_all w (Begins s.event ∷ map Writes ls))) (sym d.0) (step_order n w s.event h) in
    subst (λ (v : World). InOrder v) (sym (after_all-append w (marks_of s) (all_marks ss))) (steps_order n ss u d.1 one)

-- ---- each node's facts are its own

own_me : (k : Kept) (l : Line) → (own_step k l).me ≡ k.me
own_me k (line.Stop n) = refl
own_me k l = refl

step_me : (n : ℕ) (k : Kept) (l : Line) → (kept_step n k l).me ≡ k.me
step_me n k l = go (is_own n l)
  where
    go : (b : Bool) → (cond b (own_step k l) k).me ≡ k.me
    go true = own_me k l
    go false = refl

fold_me : (n : ℕ) (ls : List Line) (k : Kept) → (fold (kept_step n) k ls).me ≡ k.me
fold_me n [] k = refl
fold_me n (l ∷ ls) k = fold_me n ls (kept_step n k l) ∙ step_me n k l

-- in every world that due steps reach from one that a header declares
pub reached_named : (h : Header) (ms : List Mark) → Named (after_all (opened h) ms)
reached_named h ms m = ap (λ (k : Kept). k.me) (marks_kept ms (opened h) m) ∙ fold_me m (lines_among ms) (kept_of ((opened h).facts m))

pub reached_order : (n : ℕ) (h : Header) (ss : List Step) → AreDue n (opened h) ss → InOrder (after_all (opened h) (all_marks ss))
reached_order n h ss d = steps_order n ss (opened h) d tt
