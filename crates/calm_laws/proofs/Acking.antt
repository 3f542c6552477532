-- What messages and a tick make of the records that a node hands on.
use Rattle.std.proofs.Common.{◌≡◌, ℕ, ◌==◌, ◌||◌, ◌&&◌, not, Bool, true, false, List, [], ◌∷◌, ◌++◌, map, Option, Some, None, refl, sym, ap, subst, ◌∙◌}
use Rattle.std.specs.Prelude.{filter_map, flat_map, is_none, if◌then◌else◌}
use Rattle.std.specs.List.{cons_option}
use Rattle.conflict_order.specs.declared.want.Want.{Want}
use Rattle.conflict_order.specs.declared.version.Version.{Version}
use Rattle.cluster_types.specs.declared.cluster_key.ClusterKey.{ClusterKey}
use Rattle.cluster_types.specs.declared.member.Member.{Member}
use Rattle.cluster_types.specs.Partitions.{partition_of}
use Rattle.wire_messages.specs.declared.message.Batch.{Batch}
use Rattle.wire_messages.specs.declared.message.Message.{Message}
use Rattle.wire_messages.specs.declared.message.Message.TheVariants as message
use Rattle.journal_lines.specs.declared.line.Line.{Line}
use Rattle.journal_lines.specs.declared.line.Line.TheVariants as line
use Rattle.partition_lists.proofs.InOrderLaws.{equal}
use Rattle.node_rules.specs.Agreement.{Proposal, next_key}
use Rattle.node_rules.specs.Batches.{Target, Targets, next_batch, sending}
use Rattle.node_rules.specs.Copies.{Content, Row}
use Rattle.node_rules.specs.Effects.{to_each, lines_and_sends, lines_only, nothing, sends_only, to_one}
use Rattle.node_rules.specs.Exchange.{View, first_missing, is_view}
use Rattle.node_rules.specs.Facts.{Facts, list_at, members_of_view, view_key}
use Rattle.node_rules.specs.Messages as due
use Rattle.node_rules.specs.Messages.{due_message_of, finishes}
use Rattle.node_rules.specs.Notes as notes
use Rattle.node_rules.specs.Notes.{after_ages, all_sent, in_view, note, noted, reached, sent, neighbours}
use Rattle.node_rules.specs.Resolving.{repl}
use Rattle.node_rules.specs.Settling.{settling_due}
use Rattle.node_rules.specs.Standing.{others}
use Rattle.node_rules.specs.Tables.{changed_if, only_if}
use Rattle.node_rules.specs.Tick.{batch_to, batches, beat, propose, propose_with, progress, rows, sends_again, state, transactions, parts, parts_in_order, progress_message, proposal_effects}
use Rattle.node_rules.specs.Transactions.{Transaction, Write}
use Rattle.journal_readings.specs.Lines.{has_node}
use Rattle.node_rules.proofs.NoteLaws.{all_sent-append}
use Rattle.cluster_rules.proofs.KeptFacts.{num_same}
use Rattle.cluster_laws.proofs.At.{differ}
use Rattle.key_laws.proofs.DueViews.{AllOfView, OfView, settling_of_view}
use Rattle.calm_laws.specs.Acts.{Gets, Ticks, acted, as_read, effects}
use Rattle.calm_laws.specs.Flows.{Once}
use Rattle.calm_laws.specs.Group.{kind}
use Rattle.calm_laws.specs.Handing.{acked_by, acked_if, target_begun, begun_with}
use Rattle.calm_laws.specs.Laws.{is_to_propose}
use Rattle.calm_laws.specs.Turns.{is_agreeing}
use Rattle.calm_laws.proofs.KindLaws.{NoneOf, none_append, none_read}
use Rattle.calm_laws.proofs.Sent.{asks, message_none}
use Rattle.calm_laws.proofs.Taking.{free_agrees, rests_proposed}
use Rattle.calm_laws.proofs.Ticking.{proposed, progressing, tick_facts, tick_list}
use Rattle.calm_laws.proofs.Words.{Each, Ends, Words, is_state, message_words}
use Rattle.node_rules.specs.StaleMessages.{stale}
use Rattle.node_rules.specs.Agreement as agreement

-- ---- messages

-- the line leaves what is handed on
abbrev Leaves : Line → Type 0
Leaves l = (q : Option Want) (f : Facts) → (note q f l).batches ≡ f.batches

leaves_words : Words Leaves
leaves_words = record {
  stale = λ n q f. refl;
  spent = λ n q f. refl;
  merge = λ n k d v q f. refl;
}

leaves_ends : Ends Leaves
leaves_ends = record {
  value = λ n k t d v q f. refl;
  apply = λ n k t d v q f. refl;
  done = λ n k t q f. refl;
}

noted_leaves : (q : Option Want) (f : Facts) (ls : List Line) → Each Leaves ls → (noted q f ls).batches ≡ f.batches
noted_leaves q f [] h = refl
noted_leaves q f (l ∷ ls) h = noted_leaves q (note q f l) ls h.1 ∙ h.0 q f

sent_leaves : (f : Facts) (to : ℕ) (m : Message) → (kind m == 7) ≡ false → (sent f to m).batches ≡ f.batches
sent_leaves f to (message.Propose key members) h = refl
sent_leaves f to (message.Batch b) h = differ refl h
sent_leaves f to m h = refl

all_sent_leaves : (f : Facts) (ms : List (ℕ × Message)) → NoneOf (λ k. k == 7) ms → (all_sent f ms).batches ≡ f.batches
all_sent_leaves f [] h = refl
all_sent_leaves f (m ∷ ms) h = all_sent_leaves (sent f m.0 m.1) ms h.1 ∙ sent_leaves f m.0 m.1 h.0

asks_seven : (k : ℕ) → asks k ≡ false → (k == 7) ≡ false
asks_seven k h = go (k == 7) (k == 1) (k == 2) h
  where
    go : (a b c : Bool) → (b || (c || (a || (k == 12)))) ≡ false → a ≡ false
    go false b c e = refl
    go true true c e = differ refl e
    go true false true e = differ refl e
    go true false false e = differ refl e

none_seven : (ms : List (ℕ × Message)) → NoneOf asks ms → NoneOf (λ k. k == 7) ms
none_seven [] h = tt
none_seven (m ∷ ms) h = (asks_seven (kind m.1) h.0, none_seven ms h.1)

row_leaves : (f : Facts) (from : ℕ) (row : Row) (b : Bool) → (notes.row_came f from row b).batches ≡ f.batches
row_leaves f from row true = refl
row_leaves f from row false = refl

progress_leaves : (f : Facts) (from : ℕ) (done handed settled : List Bool) (b : Bool) → (notes.progress_came f from done handed settled b).batches ≡ f.batches
progress_leaves f from done handed settled true = refl
progress_leaves f from done handed settled false = refl

counted_leaves : (f : Facts) (key : ClusterKey) (l : List ℕ) (p nth : ℕ) (b : Bool) → (notes.write_counted_if f key l p nth b).batches ≡ f.batches
counted_leaves f key l p nth true = refl
counted_leaves f key l p nth false = refl

write_leaves : (f : Facts) (from : ℕ) (key : ClusterKey) (nth p : ℕ) (b : Bool) → (notes.write_came f from key nth p b).batches ≡ f.batches
write_leaves f from key nth p true = counted_leaves f key (list_at f p) p nth _
write_leaves f from key nth p false = refl

ack_leaves : (f : Facts) (from number : ℕ) (b : Bool) → (notes.write_acked f from number b).batches ≡ f.batches
ack_leaves f from number true = refl
ack_leaves f from number false = refl

answer_leaves : (f : Facts) (from number : ℕ) (v : Option Version) (b : Bool) → (notes.answer_came f from number v b).batches ≡ f.batches
answer_leaves f from number v true = refl
answer_leaves f from number v false = refl

batch_acks : (f : Facts) (from number : ℕ) (b : Bool) → (notes.batch_acked f from number b).batches ≡ acked_if f.batches from number b
batch_acks f from number true = refl
batch_acks f from number false = refl

-- a node that is in that view and has finished its exchange
pub record Over (k : ClusterKey) (set : List Member) (f : Facts) : Type 0 where
  pub view : f.exchange.view ≡ Some (record { key = k; members = set })
  pub exchanged : f.exchange.exchanged ≡ true

reached_acks : (k : ClusterKey) (set : List Member) (f : Facts) → Over k set f → (from : ℕ) (m : Message) → (reached f from m).batches ≡ acked_by k f.batches from m
reached_acks k set f o from (message.State key wants row) = row_leaves f from row (in_view f key)
reached_acks k set f o from (message.BatchAck key number) = batch_acks f from number (in_view f key) ∙ ap (λ (v : Option View). acked_if f.batches from number (is_view v key)) o.view
reached_acks k set f o from (message.Progress key wants done handed settled) = progress_leaves f from done handed settled (in_view f key)
reached_acks k set f o from (message.Repl key t nth digest v) = write_leaves f from key nth (partition_of digest) (in_view f key)
reached_acks k set f o from (message.ReplAck key t) = ack_leaves f from t (in_view f key)
reached_acks k set f o from (message.Answer key t v) = answer_leaves f from t v (in_view f key)
reached_acks k set f o from m = refl

and_false : (b : Bool) → (b && false) ≡ false
and_false true = refl
and_false false = refl

-- an exchange that is over doesn't end again
no_end : (f : Facts) (from : ℕ) (row : Row) (wants b : Bool) → f.exchange.exchanged ≡ true → Each Leaves (if b then lines_and_sends (only_if (line.Exchanged f.me (view_key f)) (finishes f (notes.row_came f from row b))) (if wants then to_one from (state f false) else []) else stale f).lines
no_end f from row wants false e = (λ q g. refl, tt)
no_end f from row wants true e =
    subst (λ (c : Bool). Each Leaves (only_if (line.Exchanged f.me (view_key f)) c)) (sym over) tt
  where
    over : finishes f (notes.row_came f from row true) ≡ false
    over = ap (λ (c : Bool). is_none (first_missing (notes.row_came f from row true).exchange.rows (members_of_view (notes.row_came f from row true))) && not c) e ∙ and_false _

due_leaves : (n : ℕ) (c : ℕ) (f : Facts) → f.exchange.exchanged ≡ true → (from : ℕ) (m : Message) → is_agreeing (kind m) ≡ false → Each Leaves (due_message_of n f c from m).lines
due_leaves n c f e from (message.State key wants row) free = no_end f from row wants (in_view f key) e
due_leaves n c f e from m free = go (is_state m) refl
  where
    go : (b : Bool) → is_state m ≡ b → Each Leaves (due_message_of n f c from m).lines
    go true i = differ i refl
    go false i = message_words Leaves leaves_words n f c from m (free_agrees m free) (λ j n k q g. differ j i) (λ j. leaves_ends)

-- a message that isn't of agreement acknowledges a batch, or leaves all
pub acted_acks : (n c : ℕ) (k : ClusterKey) (set : List Member) (f : Facts) → Over k set f → (from : ℕ) (m : Message) → is_agreeing (kind m) ≡ false → (acted n c f (Gets from m)).batches ≡ acked_by k f.batches from m
acted_acks n c k set f o from m free =
    all_sent_leaves (noted None (reached f from m) (due_message_of n f c from m).lines) (as_read (due_message_of n f c from m).sends) (none_seven (as_read (due_message_of n f c from m).sends) (none_read asks (due_message_of n f c from m).sends (message_none n f c from m)))
    ∙ noted_leaves None (reached f from m) (due_message_of n f c from m).lines (due_leaves n c f o.exchanged from m free)
    ∙ reached_acks k set f o from m

-- ---- a tick

each_not : (ns : List ℕ) (m : Message) → (kind m == 7) ≡ false → NoneOf (λ k. k == 7) (to_each ns m)
each_not [] m h = tt
each_not (n ∷ ns) m h = (h, each_not ns m h)

again_not : (f : Facts) (t : Transaction) (o : Option Write) → NoneOf (λ k. k == 7) (sends_again f t o)
again_not f t None = each_not t.awaiting _ refl
again_not f t (Some w) = each_not t.awaiting (repl f t w) refl

transactions_not : (f : Facts) (ts : List Transaction) → NoneOf (λ k. k == 7) (flat_map (λ (t : Transaction). sends_again f t t.applied) ts)
transactions_not f [] = tt
transactions_not f (t ∷ ts) = none_append (λ k. k == 7) (sends_again f t t.applied) _ (again_not f t t.applied) (transactions_not f ts)

progress_not : (n : ℕ) (f : Facts) (b : Bool) → NoneOf (λ k. k == 7) (if b then sends_only (to_each (others f) (progress_message n f true)) else nothing).sends
progress_not n f true = each_not (others f) _ refl
progress_not n f false = tt

of_view_leaves : (a : ℕ) (k : ClusterKey) (l : Line) → OfView a k l → Leaves l
of_view_leaves a k (line.Opened n l number d w) e = λ q f. refl
of_view_leaves a k (line.Value n l number d v) e = λ q f. refl
of_view_leaves a k (line.Apply n l number d v) e = λ q f. refl
of_view_leaves a k (line.Done n l number) e = λ q f. refl
of_view_leaves a k (line.Merge n l d v) e = λ q f. refl
of_view_leaves a k (line.Handed n l p) e = λ q f. refl
of_view_leaves a k (line.Settled n l p) e = λ q f. refl
of_view_leaves a k (line.Learn n l p) e = λ q f. refl
of_view_leaves a k (line.Drop n l p) e = λ q f. refl
of_view_leaves a k _ e = absurd e

all_of_view_leaves : (a : ℕ) (k : ClusterKey) (ls : List Line) → AllOfView a k ls → Each Leaves ls
all_of_view_leaves a k [] h = tt
all_of_view_leaves a k (l ∷ ls) h = (of_view_leaves a k l h.0, all_of_view_leaves a k ls h.1)

-- the batches of these targets are sent
abbrev goes : Targets → Target → Option Batch → Targets
goes ts u None = ts
goes ts u (Some b) = sending ts u.node b

abbrev go_all : ClusterKey → Content → Targets → Targets → Targets
go_all k c ts [] = ts
go_all k c ts (u ∷ us) = go_all k c (goes ts u (next_batch k c u)) us

sent_all : (k : ClusterKey) (c : Content) (us : Targets) (f : Facts) → (all_sent f (filter_map (λ (t : Target). batch_to t.node (next_batch k c t)) us)).batches ≡ go_all k c f.batches us
sent_all k c [] f = refl
sent_all k c (u ∷ us) f = go (next_batch k c u) (λ g. sent_all k c us g)
  where
    rest : List (ℕ × Message)
    rest = filter_map (λ (t : Target). batch_to t.node (next_batch k c t)) us

    go : (o : Option Batch) → ((g : Facts) → (all_sent g (filter_map (λ (t : Target). batch_to t.node (next_batch k c t)) us)).batches ≡ go_all k c g.batches us)
        → (all_sent f (cons_option (batch_to u.node o) (filter_map (λ (t : Target). batch_to t.node (next_batch k c t)) us))).batches ≡ go_all k c (goes f.batches u o) us
    go None each = each f
    go (Some b) each = each (sent f u.node (message.Batch b))

-- a batch to another target leaves the first
other_goes : (t : Target) (ts : Targets) (u : Target) (o : Option Batch) → (t.node == u.node) ≡ false → goes (t ∷ ts) u o ≡ t ∷ goes ts u o
other_goes t ts u None e = refl
other_goes t ts u (Some b) e = ap (λ (c : Bool). changed_if (λ (x : Target). record x { out = Some b; batches = b.number }) t c ∷ sending ts u.node b) e

others_go : (k : ClusterKey) (c : Content) (t : Target) (us ts : Targets) → has_node (map (λ (t : Target). t.node) us) t.node ≡ false → go_all k c (t ∷ ts) us ≡ t ∷ go_all k c ts us
others_go k c t [] ts h = refl
others_go k c t (u ∷ us) ts h = go (u.node == t.node) refl h (λ s. others_go k c t us (goes ts u (next_batch k c u)) s)
  where
    turned_round : (u.node == t.node) ≡ false → (t.node == u.node) ≡ false
    turned_round s = isnt (t.node == u.node) refl
      where
        isnt : (b : Bool) → (t.node == u.node) ≡ b → b ≡ false
        isnt false i = refl
        isnt true i = differ (equal u.node t.node (sym (num_same t.node u.node i))) s

    go : (b : Bool) → (u.node == t.node) ≡ b → (b || has_node (map (λ (t : Target). t.node) us) t.node) ≡ false → (has_node (map (λ (t : Target). t.node) us) t.node ≡ false → go_all k c (t ∷ goes ts u (next_batch k c u)) us ≡ t ∷ go_all k c (goes ts u (next_batch k c u)) us)
        → go_all k c (goes (t ∷ ts) u (next_batch k c u)) us ≡ t ∷ go_all k c (goes ts u (next_batch k c u)) us
    go true s f rest = differ refl f
    go false s f rest = ap (λ (xs : Targets). go_all k c xs us) (other_goes t ts u (next_batch k c u) (turned_round s)) ∙ rest f

-- none of these is the target
sending_leaves : (ts : Targets) (x : ℕ) (b : Batch) → has_node (map (λ (t : Target). t.node) ts) x ≡ false → sending ts x b ≡ ts
sending_leaves [] x b h = refl
sending_leaves (t ∷ ts) x b h = go (t.node == x) h (sending_leaves ts x b)
  where
    go : (c : Bool) → (c || has_node (map (λ (t : Target). t.node) ts) x) ≡ false → (has_node (map (λ (t : Target). t.node) ts) x ≡ false → sending ts x b ≡ ts)
        → changed_if (λ (y : Target). record y { out = Some b; batches = b.number }) t c ∷ sending ts x b ≡ t ∷ ts
    go true f rest = differ refl f
    go false f rest = ap (λ (xs : Targets). t ∷ xs) (rest f)

first_goes : (t : Target) (ts : Targets) (o : Option Batch) → has_node (map (λ (t : Target). t.node) ts) t.node ≡ false → goes (t ∷ ts) t o ≡ begun_with t o ∷ ts
first_goes t ts None h = refl
first_goes t ts (Some b) h =
    ap (λ (c : Bool). changed_if (λ (x : Target). record x { out = Some b; batches = b.number }) t c ∷ sending ts t.node b) (equal t.node t.node refl)
    ∙ ap (λ (xs : Targets). record t { out = Some b; batches = b.number } ∷ xs) (sending_leaves ts t.node b h)

begun_node : (t : Target) (o : Option Batch) → (begun_with t o).node ≡ t.node
begun_node t None = refl
begun_node t (Some b) = refl

all_begun : (k : ClusterKey) (c : Content) (ts : Targets) → Once (map (λ (t : Target). t.node) ts) → go_all k c ts ts ≡ map (target_begun k c) ts
all_begun k c [] h = refl
all_begun k c (t ∷ ts) h =
    ap (λ (xs : Targets). go_all k c xs ts) (first_goes t ts (next_batch k c t) h.0)
    ∙ others_go k c (begun_with t (next_batch k c t)) ts ts (ap (λ (x : ℕ). has_node (map (λ (t : Target). t.node) ts) x) (begun_node t (next_batch k c t)) ∙ h.0)
    ∙ ap (λ (xs : Targets). begun_with t (next_batch k c t) ∷ xs) (all_begun k c ts h.1)

-- what a tick that proposes nothing makes of the targets, where what it sends is read as it was sent
pub rests_begins : (n c : ℕ) (f : Facts) → f.up ≡ true → (after_ages f).agreement.proposal ≡ None → is_to_propose (after_ages f) ≡ false → as_read (effects n c f Ticks).sends ≡ (effects n c f Ticks).sends
    → Once (map (λ (t : Target). t.node) f.batches) → (acted n c f Ticks).batches ≡ map (target_begun (view_key f) f.store.content) f.batches
rests_begins n c f up none e read once =
    let g : Facts = after_ages f in
    let h0 : Facts = progressing n f in
    let b : List (ℕ × Message) = (beat g).sends in
    let p : List (ℕ × Message) = (propose g).sends in
    let r : List (ℕ × Message) = (rows (proposed f)).sends in
    let t : List (ℕ × Message) = (transactions (proposed f)).sends in
    let o : List (ℕ × Message) = (batches (proposed f)).sends in
    let q : List (ℕ × Message) = (progress n (progressing n f)).sends ++ [] in
    let h1 : Facts = all_sent h0 b in
    let h2 : Facts = all_sent h1 p in
    let h3 : Facts = all_sent h2 r in
    let h4 : Facts = all_sent h3 t in
    let h5 : Facts = all_sent h4 o in
    let plain : as_read (tick_list n f) ≡ tick_list n f = subst (λ (x : Bool). as_read (if x then parts_in_order (parts n) f else lines_only (line.Down f.me ∷ [])).sends ≡ (if x then parts_in_order (parts n) f else lines_only (line.Down f.me ∷ [])).sends) up read in
    let nothing : p ≡ [] = ap (λ (o : Option Proposal). (propose_with g o).sends) none ∙ ap (λ (x : Bool). (if x then proposal_effects g (next_key g.me g.agreement) (neighbours g) (agreement.others_among g.me (neighbours g)) else nothing).sends) e in
    let begin : h4.batches ≡ f.batches =
    all_sent_leaves h3 t (transactions_not (proposed f) (proposed f).transactions.running)
    ∙ all_sent_leaves h2 r (each_not _ (state (proposed f) true) refl)
    ∙ ap (λ (ms : List (ℕ × Message)). (all_sent h1 ms).batches) nothing
    ∙ all_sent_leaves h0 b (each_not g.peers _ refl)
    ∙ noted_leaves None (proposed f) (settling_due n (proposed f)) (all_of_view_leaves (proposed f).me (view_key (proposed f)) (settling_due n (proposed f)) (settling_of_view n (proposed f)))
    ∙ ap (λ (x : Facts). x.batches) (rests_proposed f none e) in
    ap (λ (x : Facts). x.batches) (tick_facts n c f up)
    ∙ ap (λ (ms : List (ℕ × Message)). (all_sent h0 ms).batches) plain
    ∙ ap (λ (x : Facts). x.batches) (all_sent-append h0 b (p ++ (r ++ (t ++ (o ++ q)))) ∙ all_sent-append h1 p (r ++ (t ++ (o ++ q))) ∙ all_sent-append h2 r (t ++ (o ++ q)) ∙ all_sent-append h3 t (o ++ q) ∙ all_sent-append h4 o q)
    ∙ all_sent_leaves h5 q (none_append (λ k. k == 7) (progress n (progressing n f)).sends [] (progress_not n (progressing n f) _) tt)
    ∙ ap (λ (x : Facts). (all_sent h4 (batches x).sends).batches) (rests_proposed f none e)
    ∙ sent_all (view_key f) f.store.content f.batches h4
    ∙ ap (λ (ts : Targets). go_all (view_key f) f.store.content ts f.batches) begin
    ∙ all_begun (view_key f) f.store.content f.batches once

-- the lines of settling leave the targets
pub settled_batches : (n : ℕ) (f : Facts) → (after_ages f).agreement.proposal ≡ None → is_to_propose (after_ages f) ≡ false → (progressing n f).batches ≡ f.batches
settled_batches n f none e =
    noted_leaves None (proposed f) (settling_due n (proposed f)) (all_of_view_leaves (proposed f).me (view_key (proposed f)) (settling_due n (proposed f)) (settling_of_view n (proposed f)))
    ∙ ap (λ (g : Facts). g.batches) (rests_proposed f none e)
