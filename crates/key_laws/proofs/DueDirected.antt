-- What is due of every event sends each message of a view to another member of it.
use Rattle.std.proofs.Common.{◌≡◌, ℕ, zero, suc, ◌+◌, ◌==◌, Bool, true, false, ◌&&◌, List, [], ◌∷◌, ◌++◌, Option, Some, None, map, refl, sym, ap, subst, ◌∙◌}
use Rattle.std.specs.Prelude.{filter, filter_map, flat_map, if◌then◌else◌}
use Rattle.std.specs.List.{cons_option}
use Rattle.conflict_order.specs.declared.want.Want.{Want}
use Rattle.conflict_order.specs.declared.want.Want.TheVariants as want
use Rattle.cluster_types.specs.declared.cluster_key.ClusterKey.{ClusterKey}
use Rattle.cluster_types.specs.declared.member.Member.{Member}
use Rattle.cluster_types.specs.ClusterKeys as keys
use Rattle.cluster_types.specs.Partitions.{partition_of}
use Rattle.wire_messages.specs.declared.message.Batch.{Batch}
use Rattle.wire_messages.specs.declared.message.Message.{Message}
use Rattle.wire_messages.specs.declared.message.Message.TheVariants as message
use Rattle.wire_messages.specs.Decoding.{message_of}
use Rattle.wire_messages.specs.Spelling.{spelling}
use Rattle.journal_lines.specs.declared.line.Line.{Line}
use Rattle.journal_lines.specs.declared.line.Line.TheVariants as line
use Rattle.journal_lines.specs.declared.refusal.Refusal.{Refusal}
use Rattle.node_rules.specs.Agreement as agreement
use Rattle.node_rules.specs.Agreement.{Proposal, enters_alone, next_key}
use Rattle.node_rules.specs.Batches.{Target, Targets, next_batch, batch_after, fresh_batch, has_number, out_to}
use Rattle.node_rules.specs.ByParts.{entered_alone, exchanged_if}
use Rattle.node_rules.specs.Copies.{is_nil}
use Rattle.node_rules.specs.Effects.{Effects, to_each, lines_and_sends, lines_only, nothing, sends_only, to_one}
use Rattle.node_rules.specs.Exchange.{Exchange, View, exchange_key, members_of, is_view}
use Rattle.node_rules.specs.Facts.{Facts, view_key, members_of_view, list_at}
use Rattle.node_rules.specs.Hearing.{heard_ids}
use Rattle.node_rules.specs.Map.{lacks}
use Rattle.node_rules.specs.Messages as due
use Rattle.node_rules.specs.Messages.{due_message_of}
use Rattle.node_rules.specs.Notes as notes
use Rattle.node_rules.specs.Notes.{noted, neighbours, after_ages, reached, in_view, opening_transaction}
use Rattle.node_rules.specs.Requests.{due_request, due_stop, due_start, asking, request_if, request_refusal}
use Rattle.node_rules.specs.Resolving.{repl, resolving_want, resolving}
use Rattle.node_rules.specs.Settling.{settling_due, hand, settle, learn, drop, settling_at, settling_from}
use Rattle.node_rules.specs.Standing.{others, other_replicas, asked, knows_all_settled}
use Rattle.node_rules.specs.Tables.{contains, only_if}
use Rattle.node_rules.specs.Tick as tick
use Rattle.node_rules.specs.Tick.{tick_of, propose, is_candidate, state, progress_message, parts, parts_in_order, proposal_effects}
use Rattle.node_rules.specs.Transactions.{Transaction, Write, transaction, answered, is_last_awaited}
use Rattle.node_rules.proofs.NoteLaws.{noted-append}
use Rattle.node_rules.proofs.TickParts.{alone_is, among_others_is}
use Rattle.cluster_rules.specs.DueEvents.{sent_lines, written}
use Rattle.cluster_rules.specs.Network.{Network, has_place}
use Rattle.cluster_rules.specs.NodeSteps.{IsOf, AreOf}
use Rattle.cluster_rules.proofs.OwnLines.{noted_me}
use Rattle.key_laws.specs.Addressed.{Addressed, GoesBetween}
use Rattle.key_laws.specs.Licences.{IsPromisedKey, Says}
use Rattle.key_laws.specs.Sound.{NodeKeys, Outs, OutKnown, RowsKnown, Sound}
use Rattle.key_laws.specs.Traced.{Traced}
use Rattle.key_laws.proofs.Addressed.{or_left, or_right, and_right, in_filter, differ, NodeGoes, TargetsGo, TargetGoes, OutGoes, AllAwait, Among, to_other, back, asked_among_others, replicas_among_others}
use Rattle.key_laws.proofs.Directed.{GoesIf, LineGoes, AllGo}
use Rattle.key_laws.proofs.DueViews.{view_known, found_row}
use Rattle.key_laws.proofs.Frames.{num_eq}
use Rattle.key_laws.proofs.Order.{same_is}
use Rattle.key_laws.proofs.Wire.{any_propose, any_commit, read_accept, read_refuse, read_batch, read_batch_ack, read_progress, read_repl, read_repl_ack, read_ask, read_answer, read_table, read_state, read_heartbeat}
use Rattle.cluster_types.specs.Endpoints.{client}
use Rattle.node_rules.specs.BatchMessages.{merging, merging_all}
use Rattle.node_rules.specs.ClientMessages.{map_table}
use Rattle.node_rules.specs.Entering.{closing, entering}
use Rattle.node_rules.specs.RowMessages.{finishes}
use Rattle.node_rules.specs.StaleMessages.{spent, stale}
use Rattle.node_rules.specs.TransactionMessages.{ack_of, answer_of}
use Rattle.node_rules.specs.VoteMessages.{commit_effects}
use Rattle.std.specs.FinMap as finite
use Rattle.node_rules.specs.Standing as standing

-- ---- lines

pub all_go_append : (t : Traced) (ls more : List Line) → AllGo t ls → AllGo t more → AllGo t (ls ++ more)
all_go_append t [] more a b = b
all_go_append t (l ∷ ls) more a b = (a.0, all_go_append t ls more a.1 b)

-- a node's own line sends nothing
own_goes : (t : Traced) (n : ℕ) (l : Line) → IsOf n l → LineGoes t l
own_goes t n (line.Sent i a b bytes) h = absurd h
own_goes t n (line.Deliver i a b) h = absurd h
own_goes t n (line.Repeat i a b) h = absurd h
own_goes t n (line.Cut i a b size) h = absurd h
own_goes t n _ h = tt

owns_go : (t : Traced) (n : ℕ) (ls : List Line) → AreOf n ls → AllGo t ls
owns_go t n [] h = tt
owns_go t n (l ∷ ls) h = (own_goes t n l h.0, owns_go t n ls h.1)

-- each message goes between members, whatever it is read as
abbrev pub SendsGo : Traced → ℕ → List (ℕ × Message) → Type 0
SendsGo t a [] = Unit {0}
SendsGo t a (m ∷ ms) = GoesIf t a m.0 (message_of (spelling m.1)) × SendsGo t a ms

pub sends_append : (t : Traced) (a : ℕ) (ms more : List (ℕ × Message)) → SendsGo t a ms → SendsGo t a more → SendsGo t a (ms ++ more)
sends_append t a [] more h k = k
sends_append t a (m ∷ ms) more h k = (h.0, sends_append t a ms more h.1 k)

pub sent_go : (t : Traced) (a sent flying : ℕ) (ms : List (ℕ × Message)) → SendsGo t a ms → AllGo t (sent_lines a sent flying ms)
sent_go t a sent flying [] h = tt
sent_go t a sent flying (m ∷ ms) h = (h.0, go (has_place flying) (λ f. sent_go t a (sent + 1) f ms h.1))
  where
    go : (b : Bool) → ((f : ℕ) → AllGo t (sent_lines a (sent + 1) f ms)) → AllGo t ((if b then [] else line.Full (sent + 1) ∷ []) ++ sent_lines a (sent + 1) (if b then flying + 1 else flying) ms)
    go true rest = rest (flying + 1)
    go false rest = (tt, rest flying)

pub written_go : (t : Traced) (n : ℕ) (net : Network) (e : Effects) → AreOf n e.lines → SendsGo t n e.sends → AllGo t (written net n e)
written_go t n net e own h = all_go_append t e.lines _ (owns_go t n e.lines own) (sent_go t n _ _ e.sends h)

-- a message to each of these, for each of which it goes
each_goes : (t : Traced) (a : ℕ) (m : Message) (ns : List ℕ) → ((n : ℕ) → contains ns n ≡ true → GoesIf t a n (message_of (spelling m))) → SendsGo t a (to_each ns m)
each_goes t a m [] h = tt
each_goes t a m (n ∷ ns) h = (h n (or_left (n == n) (contains ns n) (num_eq n n refl)), each_goes t a m ns (λ k e. h k (or_right (n == k) (contains ns k) e)))

-- ---- what a node knows as it sends

-- keys that stand somewhere, and whom it sends to
pub record Knows (t : Traced) (f : Facts) : Type 0 where
  pub view : IsPromisedKey t (view_key f)
  pub outs : Outs t f.batches
  pub rows : RowsKnown t f.exchange.rows
  pub others : (to : ℕ) → contains (others f) to ≡ true → Addressed t f.me to (view_key f)
  pub goes : NodeGoes t f

pub knows_of : (t : Traced) (f : Facts) → NodeKeys t f.me f → NodeGoes t f → Knows t f
knows_of t f h g = record { view = view_known t f.me f h; outs = h.outs; rows = h.rows; others = λ to e. to_other t f to h e; goes = g }

-- ---- messages of a view

state_goes : (t : Traced) (f : Facts) (to : ℕ) (wants : Bool) → Knows t f → Addressed t f.me to (view_key f) → GoesIf t f.me to (message_of (spelling (state f wants)))
state_goes t f to wants h a =
    read_state (λ x. GoesBetween t f.me to x) (λ k. IsPromisedKey t k) (λ k i. i.field) (view_key f) wants (tick.own_row_in f) h.view.field (found_row t f.me f.exchange.rows h.rows) (λ w r q. a)

progress_goes : (t : Traced) (n : ℕ) (f : Facts) (me to : ℕ) (wants : Bool) → IsPromisedKey t (view_key f) → Addressed t me to (view_key f) → GoesIf t me to (message_of (spelling (progress_message n f wants)))
progress_goes t n f me to wants h a = read_progress (λ x. GoesBetween t me to x) (view_key f) wants _ _ _ h.field (λ w x y z. a)

ask_goes : (t : Traced) (me to : ℕ) (k : ClusterKey) (number : ℕ) (d : List ℕ) → IsPromisedKey t k → Addressed t me to k → GoesIf t me to (message_of (spelling (message.Ask k number d)))
ask_goes t me to k number d h a = read_ask (λ x. GoesBetween t me to x) k number d h.field (λ i e. a)

repl_goes : (t : Traced) (f : Facts) (x : Transaction) (w : Write) (to : ℕ) → IsPromisedKey t (view_key f) → Addressed t f.me to (view_key f) → GoesIf t f.me to (message_of (spelling (repl f x w)))
repl_goes t f x w to h a = read_repl (λ y. GoesBetween t f.me to y) (view_key f) x.number w.nth x.digest w.version h.field (λ i j e v. a)

-- ---- parts of a tick

rows_go : (t : Traced) (f : Facts) → Knows t f → SendsGo t f.me (tick.rows f).sends
rows_go t f h = each_goes t f.me (state f true) (filter (lacks f.exchange.rows) (others f)) (λ n e. state_goes t f n true h (h.others n (in_filter (lacks f.exchange.rows) (others f) n e).0))

again_go : (t : Traced) (f : Facts) (x : Transaction) (o : Option Write) → Knows t f → Among (others f) x.awaiting → SendsGo t f.me (tick.sends_again f x o)
again_go t f x None h a = each_goes t f.me _ x.awaiting (λ n e. ask_goes t f.me n (view_key f) x.number x.digest h.view (h.others n (a.each n e)))
again_go t f x (Some w) h a = each_goes t f.me _ x.awaiting (λ n e. repl_goes t f x w n h.view (h.others n (a.each n e)))

all_again_go : (t : Traced) (f : Facts) (xs : List Transaction) → Knows t f → AllAwait (others f) xs → SendsGo t f.me (flat_map (λ (x : Transaction). tick.sends_again f x x.applied) xs)
all_again_go t f [] h a = tt
all_again_go t f (x ∷ xs) h a = sends_append t f.me _ _ (again_go t f x x.applied h a.0) (all_again_go t f xs h a.1)

-- the next batch is of a key that is known, and goes to its target
record NextGoes (t : Traced) (me to : ℕ) (b : Batch) : Type 0 where
  known : IsPromisedKey t b.key
  goes : Addressed t me to b.key

abbrev NextIf : Traced → ℕ → ℕ → Option Batch → Type 0
NextIf t me to None = Unit {0}
NextIf t me to (Some b) = NextGoes t me to b

next_goes : (t : Traced) (f : Facts) (x : Target) → Knows t f → TargetGoes t f.me (others f) x → (o : Option Batch) → OutKnown t o → OutGoes t f.me x.node o → NextIf t f.me x.node (batch_after (view_key f) f.store.content x o)
next_goes t f x h a (Some b) known out = record { known = known; goes = out }
next_goes t f x h a None known out = fresh x.pending
  where
    fresh : (ds : List (List ℕ)) → NextIf t f.me x.node (fresh_batch (view_key f) f.store.content x ds)
    fresh [] = tt
    fresh (d ∷ ds) = record { known = h.view; goes = h.others x.node a.other }

at_key : (t : Traced) (me to : ℕ) (k q : ClusterKey) → Addressed t me to k → q ≡ k → Addressed t me to q
at_key t me to k q a e = subst (λ x. Addressed t me to x) (sym e) a

batches_from : (t : Traced) (f : Facts) (xs : Targets) → Knows t f → Outs t xs → TargetsGo t f.me (others f) xs → SendsGo t f.me (filter_map (λ (x : Target). tick.batch_to x.node (next_batch (view_key f) f.store.content x)) xs)
batches_from t f [] h outs a = tt
batches_from t f (x ∷ xs) h outs a = go (next_batch (view_key f) f.store.content x) (next_goes t f x h a.0 x.out outs.0 a.0.out) (batches_from t f xs h outs.1 a.1)
  where
    go : (o : Option Batch) → NextIf t f.me x.node o → SendsGo t f.me (filter_map (λ (x : Target). tick.batch_to x.node (next_batch (view_key f) f.store.content x)) xs)
        → SendsGo t f.me (cons_option (tick.batch_to x.node o) (filter_map (λ (x : Target). tick.batch_to x.node (next_batch (view_key f) f.store.content x)) xs))
    go None i rest = rest
    go (Some b) i rest = (read_batch (λ y. GoesBetween t f.me x.node y) b i.known.field (λ c e. at_key t f.me x.node b.key c.key i.goes e), rest)

batches_go : (t : Traced) (f : Facts) → Knows t f → SendsGo t f.me (tick.batches f).sends
batches_go t f h = batches_from t f f.batches h h.outs h.goes.targets

progress_go : (t : Traced) (n : ℕ) (f : Facts) (me : ℕ) (b : Bool) → IsPromisedKey t (view_key f) → ((to : ℕ) → contains (others f) to ≡ true → Addressed t me to (view_key f)) → SendsGo t me (if b then sends_only (to_each (standing.others f) (progress_message n f true)) else nothing).sends
progress_go t n f me true known h = each_goes t me _ (others f) (λ to e. progress_goes t n f me to true known (h to e))
progress_go t n f me false known h = tt

beat_go : (t : Traced) (f : Facts) → Knows t f → IsPromisedKey t f.agreement.promised → SendsGo t f.me (tick.beat f).sends
beat_go t f h promised = each_goes t f.me _ f.peers (λ n e. read_heartbeat (λ x. GoesBetween t f.me n x) (view_key f) f.agreement.promised (heard_ids f.hearing.heard) f.role h.view.field promised.field (λ x r. tt))

proposals_go : (t : Traced) (a : ℕ) (k : ClusterKey) (ms : List Member) (ns : List ℕ) → SendsGo t a (to_each ns (message.Propose k ms))
proposals_go t a k ms ns = each_goes t a _ ns (λ n e. any_propose (λ x. GoesBetween t a n x) k ms (λ q xs. tt))

propose_go : (t : Traced) (f : Facts) → SendsGo t f.me (propose f).sends
propose_go t f = go f.agreement.proposal
  where
    to : (ns : List ℕ) → SendsGo t f.me (tick.proposal_effects f (agreement.next_key f.me f.agreement) (neighbours f) ns).sends
    to [] = tt
    to (n ∷ ns) = proposals_go t f.me (agreement.next_key f.me f.agreement) (neighbours f) (n ∷ ns)

    new : (b : Bool) → SendsGo t f.me (if b then proposal_effects f (next_key f.me f.agreement) (neighbours f) (agreement.others_among f.me (neighbours f)) else nothing).sends
    new true = to (agreement.others_among f.me (neighbours f))
    new false = tt

    go : (o : Option Proposal) → SendsGo t f.me (tick.propose_with f o).sends
    go (Some p) = proposals_go t f.me p.key p.members p.missing
    go None = new (is_candidate f && agreement.has_round f.agreement)

-- ---- answers

accept_goes : (t : Traced) (a b : ℕ) (k : ClusterKey) → IsPromisedKey t k → GoesIf t a b (message_of (spelling (message.Accept k)))
accept_goes t a b k h = read_accept (λ x. GoesBetween t a b x) k h.field tt

refuse_goes : (t : Traced) (a b : ℕ) (k promised : ClusterKey) → IsPromisedKey t k → IsPromisedKey t promised → GoesIf t a b (message_of (spelling (message.Refuse k promised)))
refuse_goes t a b k promised h i = read_refuse (λ x. GoesBetween t a b x) k promised h.field i.field tt

-- ---- a tick

-- nobody to send to
pub record Alone (f : Facts) : Type 0 where
  pub others : others f ≡ []
  pub running : f.transactions.running ≡ []
  pub batches : f.batches ≡ []

no_node : (ns : List ℕ) → is_nil ns ≡ true → ns ≡ []
no_node [] e = refl
no_node (n ∷ ns) e = differ refl (sym e)

pub alone_in : (f : Facts) (key : ClusterKey) (set : List Member) (b : Bool) → agreement.others_among f.me set ≡ [] → Alone (exchanged_if (notes.entered f key set (notes.own_row f)) key b)
alone_in f key set true e = record { others = e; running = refl; batches = ap (λ ns. map (notes.target_for (notes.entered f key set (notes.own_row f))) ns) e }
alone_in f key set false e = record { others = e; running = refl; batches = refl }

pub alone_now : (f : Facts) (set : List Member) → (agreement.proposes_anew f.agreement (is_candidate f) && is_nil (agreement.others_among f.me set)) ≡ true → agreement.others_among f.me set ≡ []
alone_now f set e = no_node (agreement.others_among f.me set) (and_right (agreement.proposes_anew f.agreement (is_candidate f)) _ e)

-- what the later parts of a tick send, of the facts after the proposal and after settling
abbrev pub later : ℕ → Facts → Facts → List (ℕ × Message)
later n g i = (tick.rows g).sends ++ ((tick.transactions g).sends ++ ((tick.batches g).sends ++ ((tick.progress n i).sends ++ [])))

progress_none : (n : ℕ) (f : Facts) (b : Bool) → others f ≡ [] → (if b then sends_only (to_each (standing.others f) (progress_message n f true)) else nothing).sends ≡ []
progress_none n f true e = ap (λ ns. to_each ns (progress_message n f true)) e
progress_none n f false e = refl

pub nothing_later : (n : ℕ) (g i : Facts) → Alone g → others i ≡ others g → later n g i ≡ []
nothing_later n g i h e =
    let first : (tick.rows g).sends ≡ [] = ap (λ ns. to_each (filter (lacks g.exchange.rows) ns) (state g true)) h.others in
    let second : (tick.transactions g).sends ≡ [] = ap (λ (xs : List Transaction). flat_map (λ (x : Transaction). tick.sends_again g x x.applied) xs) h.running in
    let third : (tick.batches g).sends ≡ [] = ap (λ (xs : Targets). filter_map (λ (x : Target). tick.batch_to x.node (next_batch (view_key g) g.store.content x)) xs) h.batches in
    let fourth : (tick.progress n i).sends ≡ [] = progress_none n i _ (e ∙ h.others) in
    rw first (rw second (rw third (rw fourth refl)))

-- settling leaves the view
same_view_if : (f : Facts) (l : Line) (b : Bool) → (notes.note None f l).exchange ≡ f.exchange → (noted None f (only_if l b)).exchange ≡ f.exchange
same_view_if f l true e = e
same_view_if f l false e = refl

settling_at_view : (l : List ℕ) (p : ℕ) (f : Facts) → (noted None f (settling_at l p f)).exchange ≡ f.exchange
settling_at_view l p f =
    let f1 : Facts = noted None f (hand f l p) in
    let f2 : Facts = noted None f1 (settle f1 l p) in
    let f3 : Facts = noted None f2 (learn f2 l p) in
    ap (λ (g : Facts). g.exchange) (noted-append None f (hand f l p) (settle f1 l p ++ (learn f2 l p ++ drop f3 l p))
    ∙ noted-append None f1 (settle f1 l p) (learn f2 l p ++ drop f3 l p)
    ∙ noted-append None f2 (learn f2 l p) (drop f3 l p))
    ∙ same_view_if f3 (line.Drop f3.me (view_key f3) p) _ refl
    ∙ same_view_if f2 (line.Learn f2.me (view_key f2) p) _ refl
    ∙ same_view_if f1 (line.Settled f1.me (view_key f1) p) _ refl
    ∙ same_view_if f (line.Handed f.me (view_key f) p) _ refl

settling_view : (n p : ℕ) (f : Facts) → (noted None f (settling_from n p f)).exchange ≡ f.exchange
unfolding settling_from
settling_view zero p f = refl
settling_view (suc n) p f =
    let g : Facts = noted None f (settling_at (list_at f p) p f) in
    ap (λ (h : Facts). h.exchange) (noted-append None f (settling_at (list_at f p) p f) (settling_from n (p + 1) g))
    ∙ settling_view n (p + 1) g
    ∙ settling_at_view (list_at f p) p f

pub settled_view : (n : ℕ) (f : Facts) (b : Bool) → (noted None f (if b then settling_from n 0 f else [])).exchange ≡ f.exchange
settled_view n f true = settling_view n 0 f
settled_view n f false = refl

pub same_others : (f g : Facts) → g.me ≡ f.me → g.exchange ≡ f.exchange → others g ≡ others f
same_others f g me x = ap (λ (e : Exchange). agreement.others_among g.me (members_of e.view)) x ∙ ap (λ (n : ℕ). agreement.others_among n (members_of_view f)) me

same_key_of : (f g : Facts) → g.exchange ≡ f.exchange → view_key g ≡ view_key f
same_key_of f g x = ap (λ (e : Exchange). exchange_key e.view) x

later_go : (t : Traced) (n : ℕ) (g i : Facts) → Knows t g → i.me ≡ g.me → i.exchange ≡ g.exchange → SendsGo t g.me (later n g i)
later_go t n g i h me x =
    sends_append t g.me _ _ (rows_go t g h)
    (sends_append t g.me _ _ (all_again_go t g g.transactions.running h h.goes.waits)
    (sends_append t g.me _ _ (batches_go t g h)
    (sends_append t g.me (tick.progress n i).sends [] (progress_go t n i g.me _ (subst (λ k. IsPromisedKey t k) (sym (same_key_of g i x)) h.view)
    (λ to e. subst (λ k. Addressed t g.me to k) (sym (same_key_of g i x)) (h.others to (subst (λ ns. contains ns to ≡ true) (same_others g i me x) e)))) tt)))

-- the parts of a tick, of the facts with its line
tick_parts_go : (t : Traced) (n : ℕ) (f : Facts) → Knows t f → IsPromisedKey t f.agreement.promised
    → SendsGo t f.me ((tick.beat f).sends ++ ((propose f).sends ++ later n (noted None f (propose f).lines) (noted None (noted None f (propose f).lines) (settling_due n (noted None f (propose f).lines)))))
tick_parts_go t n f h promised = sends_append t f.me _ _ (beat_go t f h promised) (sends_append t f.me _ _ (propose_go t f) (go (enters_alone f.me f.agreement (neighbours f) (is_candidate f)) refl))
  where
    settled : (g : Facts) → Facts
    settled g = noted None g (settling_due n g)

    go : (b : Bool) → enters_alone f.me f.agreement (neighbours f) (is_candidate f) ≡ b → SendsGo t f.me (later n (noted None f (propose f).lines) (noted None (noted None f (propose f).lines) (settling_due n (noted None f (propose f).lines))))
    go true e =
        let g : Facts = entered_alone f (agreement.next_key f.me f.agreement) (neighbours f) in
        let alone : Alone g = alone_in (record f { agreement = agreement.promising f.agreement (agreement.next_key f.me f.agreement) }) (agreement.next_key f.me f.agreement) (neighbours f) _ (alone_now f (neighbours f) e) in
        let i : Facts = noted None g (settling_due n g) in
        subst (λ (x : Facts). SendsGo t f.me (later n x (noted None x (settling_due n x)))) (sym (alone_is f e))
        (subst (λ ms. SendsGo t f.me ms) (sym (nothing_later n g i alone (same_others g i (noted_me None g (settling_due n g)) (settled_view n g g.exchange.exchanged)))) tt)
    go false e =
        let g : Facts = record f { agreement = (noted None f (propose f).lines).agreement } in
        let i : Facts = noted None g (settling_due n g) in
        let k : Knows t g = record { view = h.view; outs = h.outs; rows = h.rows; others = h.others; goes = record { targets = h.goes.targets; waits = h.goes.waits } } in
        subst (λ (x : Facts). SendsGo t f.me (later n x (noted None x (settling_due n x)))) (sym (among_others_is f e))
        (later_go t n g i k (noted_me None g (settling_due n g)) (settled_view n g g.exchange.exchanged))

pub tick_go : (t : Traced) (n : ℕ) (f : Facts) → NodeKeys t f.me f → NodeGoes t f → SendsGo t f.me (tick_of n f).sends
tick_go t n f keys goes = go f.up
  where
    go : (b : Bool) → SendsGo t f.me (if b then parts_in_order (parts n) f else lines_only (line.Down f.me ∷ [])).sends
    go true =
        let h : Knows t f = knows_of t f keys goes in
        tick_parts_go t n (after_ages f) (record { view = h.view; outs = h.outs; rows = h.rows; others = h.others; goes = record { targets = h.goes.targets; waits = h.goes.waits } }) keys.agrees.promised
    go false = tt

-- ---- messages

-- the view has that key
view_is : (f : Facts) (k : ClusterKey) → in_view f k ≡ true → view_key f ≡ k
view_is f k e = go f.exchange.view e
  where
    go : (o : Option View) → is_view o k ≡ true → exchange_key o ≡ k
    go None e = differ refl (sym e)
    go (Some v) e = same_is v.key k e

commits_go : (t : Traced) (a : ℕ) (k : ClusterKey) (ms : List Member) (ns : List ℕ) → SendsGo t a (to_each ns (message.Commit k ms))
commits_go t a k ms ns = each_goes t a _ ns (λ n e. any_commit (λ x. GoesBetween t a n x) k ms (λ q xs. tt))

resolving_go : (t : Traced) (f : Facts) (clock : ℕ) (x : Transaction) (w : Want) → Knows t f → SendsGo t f.me (resolving_want f clock (list_at f (partition_of x.digest)) x w).sends
resolving_go t f clock x w h = go w
  where
    all : (y : Write) → SendsGo t f.me (to_each (other_replicas f (list_at f (partition_of x.digest))) (repl f x y))
    all y = each_goes t f.me _ (other_replicas f (list_at f (partition_of x.digest))) (λ n e. repl_goes t f x y n h.view (h.others n ((replicas_among_others f (partition_of x.digest)).each n e)))

    go : (w : Want) → SendsGo t f.me (resolving_want f clock (list_at f (partition_of x.digest)) x w).sends
    go want.Get = tt
    go (want.Put bytes) = all _
    go want.Del = all _

-- what is known as a message comes, before it counts
pub record Comes (t : Traced) (f : Facts) (from : ℕ) (m : Message) : Type 0 where
  pub sound : Sound t
  pub keys : NodeKeys t f.me f
  pub goes : NodeGoes t f
  pub says : Says t from m
  pub between : GoesBetween t from f.me m

knows : (t : Traced) (f : Facts) (from : ℕ) (m : Message) → Comes t f from m → Knows t f
knows t f from m c = knows_of t f c.keys c.goes

pub message_go : (n : ℕ) (t : Traced) (f : Facts) (clock from : ℕ) (m : Message) → Comes t f from m → SendsGo t f.me (due_message_of n f clock from m).sends
message_go n t f clock from (message.Heartbeat view promised hears role) c = tt
message_go n t f clock from (message.Propose k ms) c = go (keys.key_lt k f.agreement.promised)
  where
    known : IsPromisedKey t k
    known = (c.sound.lists k ms c.says.1).known

    go : (b : Bool) → SendsGo t f.me (if b then sends_only (to_one from (message.Refuse k f.agreement.promised)) else lines_and_sends (only_if (line.Promise f.me k) (keys.key_lt f.agreement.promised k)) (to_one from (message.Accept k))).sends
    go true = (refuse_goes t f.me from k f.agreement.promised known c.keys.agrees.promised, tt)
    go false = (accept_goes t f.me from k known, tt)
message_go n t f clock from (message.Accept k) c = go f.agreement.proposal (agreement.proposes f.agreement.proposal k)
  where
    deep : (p : Proposal) (b : Bool) → SendsGo t f.me (if b then commit_effects f p else nothing).sends
    deep p true = commits_go t f.me p.key p.members (agreement.others_among f.me p.members)
    deep p false = tt

    go : (o : Option Proposal) (b : Bool) → SendsGo t f.me (due.accept_effects f from k o b).sends
    go (Some p) true = deep p (is_nil (agreement.without_missing p from).missing)
    go (Some p) false = tt
    go None b = tt
message_go n t f clock from (message.Refuse k promised) c = go (agreement.proposes f.agreement.proposal k)
  where
    go : (b : Bool) → SendsGo t f.me (if b then nothing else stale f).sends
    go true = tt
    go false = tt
message_go n t f clock from (message.Commit k ms) c = go (due.may_enter_view f k ms)
  where
    go : (b : Bool) → SendsGo t f.me (if b then lines_only (entering f k ms) else stale f).sends
    go true = tt
    go false = tt
message_go n t f clock from (message.State k wants row) c = go (in_view f k) refl
  where
    answer : (b : Bool) → in_view f k ≡ true → SendsGo t f.me (if b then to_one from (state f false) else [])
    answer true e = (state_goes t f from false (knows t f from (message.State k wants row) c) (subst (λ q. Addressed t f.me from q) (sym (view_is f k e)) (back t from f.me k c.between)), tt)
    answer false e = tt

    go : (b : Bool) → in_view f k ≡ b → SendsGo t f.me (if b then lines_and_sends (only_if (line.Exchanged f.me (view_key f)) (finishes f (reached f from (message.State k wants row)))) (if wants then to_one from (state f false) else []) else stale f).sends
    go true e = answer wants e
    go false e = tt
message_go n t f clock from (message.Batch b) c = go (in_view f b.key)
  where
    go : (x : Bool) → SendsGo t f.me (if x then lines_and_sends (merging_all f b.records) (to_one from (message.BatchAck b.key b.number)) else stale f).sends
    go true = (read_batch_ack (λ x. GoesBetween t f.me from x) b.key b.number c.says.field (λ i. back t from f.me b.key c.between), tt)
    go false = tt
message_go n t f clock from (message.BatchAck k number) c = go (in_view f k)
  where
    deep : (b : Bool) → SendsGo t f.me (if b then nothing else spent f).sends
    deep true = tt
    deep false = tt

    go : (b : Bool) → SendsGo t f.me (if b then (if has_number (out_to f.batches from) number then nothing else spent f) else stale f).sends
    go true = deep _
    go false = tt
message_go n t f clock from (message.Progress k wants done handed settled) c = go (in_view f k) refl
  where
    now : Facts
    now = reached f from (message.Progress k wants done handed settled)

    same : (b : Bool) → view_key (notes.progress_came f from done handed settled b) ≡ view_key f
    same true = refl
    same false = refl

    answer : (b : Bool) → view_key f ≡ k → SendsGo t f.me (if b then sends_only (to_one from (progress_message n now false)) else nothing).sends
    answer true e = (progress_goes t n now f.me from false (subst (λ q. IsPromisedKey t q) (sym (same (in_view f k) ∙ e)) c.says) (subst (λ q. Addressed t f.me from q) (sym (same (in_view f k) ∙ e)) (back t from f.me k c.between)), tt)
    answer false e = tt

    go : (b : Bool) → in_view f k ≡ b → SendsGo t f.me (if b then (if wants && knows_all_settled now n 0 then sends_only (to_one from (progress_message n now false)) else nothing) else stale f).sends
    go true e = answer _ (view_is f k e)
    go false e = tt
message_go n t f clock from (message.Repl k number nth d v) c = go (in_view f k)
  where
    go : (b : Bool) → SendsGo t f.me (if b then lines_and_sends (merging f d v) (to_one from (message.ReplAck k number)) else stale f).sends
    go true = (read_repl_ack (λ x. GoesBetween t f.me from x) k number c.says.field (λ i. back t from f.me k c.between), tt)
    go false = tt
message_go n t f clock from (message.ReplAck k number) c = go (in_view f k)
  where
    deep : (x : Transaction) (b : Bool) → SendsGo t f.me (if b then lines_only (only_if (line.Done f.me (view_key f) x.number) (is_last_awaited x from)) else spent f).sends
    deep x true = tt
    deep x false = tt

    ack : (o : Option Transaction) → SendsGo t f.me (due.ack_of f from o).sends
    ack None = tt
    ack (Some x) = deep x (Rattle.node_rules.specs.Transactions.awaits_ack x from)

    go : (b : Bool) → SendsGo t f.me (if b then ack_of f from (transaction f.transactions number) else stale f).sends
    go true = ack (transaction f.transactions number)
    go false = tt
message_go n t f clock from (message.Ask k number d) c = go (in_view f k)
  where
    go : (b : Bool) → SendsGo t f.me (if b then sends_only (to_one from (message.Answer k number (finite.get f.store.content d))) else stale f).sends
    go true = (read_answer (λ x. GoesBetween t f.me from x) k number _ c.says.field (λ i w. back t from f.me k c.between), tt)
    go false = tt
message_go n t f clock from (message.Answer k number v) c = go (in_view f k)
  where
    last : (x : Transaction) (b : Bool) → SendsGo t f.me (if b then resolving f clock (list_at f (partition_of x.digest)) x else nothing).sends
    last x true = resolving_go t f clock x x.want (knows t f from (message.Answer k number v) c)
    last x false = tt

    deep : (x : Transaction) (b : Bool) → SendsGo t f.me (if b then (if is_last_awaited x from then resolving f clock (list_at f (partition_of (answered f.store.by from v x).digest)) (answered f.store.by from v x) else nothing) else spent f).sends
    deep x true = last (answered f.store.by from v x) (Rattle.node_rules.specs.Transactions.is_last_awaited x from)
    deep x false = tt

    answer : (o : Option Transaction) → SendsGo t f.me (due.answer_of f clock from v o).sends
    answer None = tt
    answer (Some x) = deep x (Rattle.node_rules.specs.Transactions.awaits_answer x from)

    go : (b : Bool) → SendsGo t f.me (if b then answer_of f clock from v (transaction f.transactions number) else stale f).sends
    go true = answer (transaction f.transactions number)
    go false = tt
message_go n t f clock from message.MapAsk c = go f.exchange.exchanged
  where
    go : (b : Bool) → SendsGo t f.me (if b then sends_only (to_one client (message.MapTable (map_table f))) else nothing).sends
    go true = (read_table (λ x. GoesBetween t f.me due.client x) (due.map_table f) (view_known t f.me f c.keys).field (λ y e. tt), tt)
    go false = tt
message_go n t f clock from _ c = tt

-- ---- requests

pub request_go : (t : Traced) (f : Facts) (clock : ℕ) (d : List ℕ) (w : Want) → NodeKeys t f.me f → NodeGoes t f → SendsGo t f.me (due_request f clock d w).sends
request_go t f clock d w keys goes = go (request_refusal f (list_at f (partition_of d)) d)
  where
    h : Knows t f
    h = knows_of t f keys goes

    new : Facts → Transaction
    new g = opening_transaction g (list_at g (partition_of d)) (g.transactions.opened + 1) d w

    asks : (ns : List ℕ) → Among (others f) ns → SendsGo t f.me (asking f clock (list_at f (partition_of d)) (new f) ns).sends
    asks [] a = resolving_go t f clock (new f) w h
    asks (n ∷ ns) a = each_goes t f.me _ (n ∷ ns) (λ m e. ask_goes t f.me m (view_key f) (new f).number d h.view (h.others m (a.each m e)))

    go : (o : Option Refusal) → SendsGo t f.me (request_if f clock (list_at f (partition_of d)) d w o).sends
    go (Some cause) = tt
    go None = asks (asked f (list_at f (partition_of d)) (partition_of d)) (asked_among_others f (partition_of d))

pub stop_go : (t : Traced) (a : ℕ) (f : Facts) → SendsGo t a (due_stop f).sends
stop_go t a f = go f.up
  where
    go : (b : Bool) → SendsGo t a (if b then lines_only (closing f ++ line.Stop f.me ∷ []) else lines_only (line.Down f.me ∷ [])).sends
    go true = tt
    go false = tt

pub start_go : (t : Traced) (a : ℕ) (f : Facts) → SendsGo t a (due_start f).sends
start_go t a f = go f.up
  where
    go : (b : Bool) → SendsGo t a (if b then lines_only (line.Up f.me ∷ []) else lines_only (line.Start f.me ∷ [])).sends
    go true = tt
    go false = tt
