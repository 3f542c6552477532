-- Which kinds a node sends: beats of a tick alone, and one to each peer.
use Rattle.std.proofs.Common.{◌≡◌, ℕ, ◌==◌, ◌||◌, Bool, true, false, List, [], ◌∷◌, ◌++◌, Option, Some, None, refl, sym, ap, subst, ◌∙◌, inl, inr}
use Rattle.std.specs.Prelude.{filter_map, flat_map, if◌then◌else◌, ◌&&◌}
use Rattle.std.specs.List.{cons_option}
use Rattle.std.proofs.lemmas.List.Elements.{filter_map-append}
use Rattle.conflict_order.specs.declared.version.Version.{Version}
use Rattle.conflict_order.specs.declared.version.Body.TheVariants as body
use Rattle.conflict_order.specs.declared.want.Want.{Want}
use Rattle.conflict_order.specs.declared.want.Want.TheVariants as want
use Rattle.conflict_order.specs.Next.{next}
use Rattle.cluster_types.specs.declared.cluster_key.ClusterKey.{ClusterKey}
use Rattle.cluster_types.specs.declared.member.Member.{Member}
use Rattle.wire_messages.specs.declared.message.Batch.{Batch}
use Rattle.wire_messages.specs.declared.message.Message.{Message}
use Rattle.wire_messages.specs.declared.message.Message.TheVariants as message
use Rattle.wire_messages.specs.Decoding.{message_of}
use Rattle.wire_messages.specs.Spelling.{spelling}
use Rattle.node_rules.specs.Agreement as agreement
use Rattle.node_rules.specs.Agreement.{Proposal, proposes, without_missing, next_key}
use Rattle.node_rules.specs.Batches.{out_to, has_number, next_batch, Target, Targets}
use Rattle.node_rules.specs.Copies.{is_nil, Content}
use Rattle.node_rules.specs.Effects.{Effects, to_each, lines_and_sends, lines_only, nothing, sends_only, to_one}
use Rattle.node_rules.specs.Facts.{Facts, view_key, list_at}
use Rattle.node_rules.specs.Messages.{commit_effects, accept_effects, ack_of, answer_of, may_enter_view, due_message_of}
use Rattle.node_rules.specs.Notes.{noted, reached, in_view, after_ages, neighbours}
use Rattle.node_rules.specs.Resolving.{writing, resolving_want, repl, resolving}
use Rattle.node_rules.specs.Standing.{other_replicas, others, knows_all_settled}
use Rattle.node_rules.specs.Tick.{Part, parts_in_order, propose, proposal_effects, propose_with, rows, transactions, sends_again, batches, batch_to, settlings, progress, state, parts, progress_message}
use Rattle.node_rules.specs.Transactions.{Transaction, Write, transaction, awaits_answer, awaits_ack, answered, is_last_awaited}
use Rattle.run_laws.specs.Tied.{Among}
use Rattle.calm_laws.specs.Acts.{Input, Ticks, Gets, reading, read_to, as_read, sent_at, acted, outbox}
use Rattle.calm_laws.specs.Flows.{beat_of}
use Rattle.calm_laws.specs.Group.{kind}
use Rattle.calm_laws.proofs.KindLaws.{NoneOf, none_append, none_read}
use Rattle.cluster_types.specs.Endpoints.{client}
use Rattle.cluster_types.specs.Partitions.{partition_of}
use Rattle.node_rules.specs.BatchMessages.{merging, merging_all}
use Rattle.node_rules.specs.ClientMessages.{map_table}
use Rattle.node_rules.specs.Entering.{entering}
use Rattle.node_rules.specs.RowMessages.{finishes}
use Rattle.node_rules.specs.StaleMessages.{spent, stale}
use Rattle.node_rules.specs.Tables.{only_if}
use Rattle.std.specs.FinMap as finite
use Rattle.cluster_types.specs.ClusterKeys as keys
use Rattle.journal_lines.specs.declared.line.Line.TheVariants as line
use Rattle.node_rules.specs.Standing as standing

-- ---- a message at a node sends no beat, and nothing else that ticks send alone

-- whether only a tick sends messages of that kind
abbrev pub asks : ℕ → Bool
asks k = (k == 1) || ((k == 2) || ((k == 7) || (k == 12)))

abbrev Answers : Effects → Type 0
Answers e = NoneOf asks e.sends

each_none : (ns : List ℕ) (m : Message) → asks (kind m) ≡ false → NoneOf asks (to_each ns m)
each_none [] m h = tt
each_none (n ∷ ns) m h = (h, each_none ns m h)

committing_none : (f : Facts) (p : Proposal) (b : Bool) → Answers (if b then commit_effects f p else nothing)
committing_none f p true = each_none (agreement.others_among f.me p.members) (message.Commit p.key p.members) refl
committing_none f p false = tt

counting_none : (f : Facts) (from : ℕ) (key : ClusterKey) (o : Option Proposal) (b : Bool) → Answers (accept_effects f from key o b)
counting_none f from key (Some p) true = committing_none f p (is_nil (without_missing p from).missing)
counting_none f from key (Some p) false = tt
counting_none f from key None b = tt

voting_none : (f : Facts) (from : ℕ) (key : ClusterKey) (b : Bool)
    → Answers (if b then sends_only (to_one from (message.Refuse key f.agreement.promised)) else lines_and_sends (only_if (line.Promise f.me key) (keys.key_lt f.agreement.promised key)) (to_one from (message.Accept key)))
voting_none f from key true = (refl, tt)
voting_none f from key false = (refl, tt)

unless_stale_none : (f : Facts) (b : Bool) → Answers (if b then nothing else stale f)
unless_stale_none f true = tt
unless_stale_none f false = tt

entering_if_none : (f : Facts) (key : ClusterKey) (ms : List Member) (b : Bool) → Answers (if b then lines_only (entering f key ms) else stale f)
entering_if_none f key ms true = tt
entering_if_none f key ms false = tt

answer_state_none : (f : Facts) (from : ℕ) (b : Bool) → NoneOf asks (if b then to_one from (state f false) else [])
answer_state_none f from true = (refl, tt)
answer_state_none f from false = tt

state_none : (f now : Facts) (from : ℕ) (wants b : Bool) → Answers (if b then lines_and_sends (only_if (line.Exchanged f.me (view_key f)) (finishes f now)) (if wants then to_one from (state f false) else []) else stale f)
state_none f now from wants true = answer_state_none f from wants
state_none f now from wants false = tt

batch_none : (f : Facts) (from : ℕ) (b : Batch) (c : Bool) → Answers (if c then lines_and_sends (merging_all f b.records) (to_one from (message.BatchAck b.key b.number)) else stale f)
batch_none f from b true = (refl, tt)
batch_none f from b false = tt

unless_spent_none : (f : Facts) (b : Bool) → Answers (if b then nothing else spent f)
unless_spent_none f true = tt
unless_spent_none f false = tt

batch_ack_none : (f : Facts) (from number : ℕ) (b : Bool) → Answers (if b then (if has_number (out_to f.batches from) number then nothing else spent f) else stale f)
batch_ack_none f from number true = unless_spent_none f (has_number (out_to f.batches from) number)
batch_ack_none f from number false = tt

answer_progress_none : (n : ℕ) (now : Facts) (from : ℕ) (b : Bool) → Answers (if b then sends_only (to_one from (progress_message n now false)) else nothing)
answer_progress_none n now from true = (refl, tt)
answer_progress_none n now from false = tt

progress_none : (n : ℕ) (f now : Facts) (from : ℕ) (wants b : Bool) → Answers (if b then (if wants && knows_all_settled now n 0 then sends_only (to_one from (progress_message n now false)) else nothing) else stale f)
progress_none n f now from wants true = answer_progress_none n now from _
progress_none n f now from wants false = tt

repl_none : (f : Facts) (from : ℕ) (key : ClusterKey) (number : ℕ) (d : List ℕ) (v : Version) (b : Bool) → Answers (if b then lines_and_sends (merging f d v) (to_one from (message.ReplAck key number)) else stale f)
repl_none f from key number d v true = (refl, tt)
repl_none f from key number d v false = tt

done_by_none : (f : Facts) (t : Transaction) (from : ℕ) (b : Bool) → Answers (if b then lines_only (only_if (line.Done f.me (view_key f) t.number) (is_last_awaited t from)) else spent f)
done_by_none f t from true = tt
done_by_none f t from false = tt

ack_of_none : (f : Facts) (from : ℕ) (o : Option Transaction) → Answers (ack_of f from o)
ack_of_none f from None = tt
ack_of_none f from (Some t) = done_by_none f t from (awaits_ack t from)

repl_ack_none : (f : Facts) (from number : ℕ) (b : Bool) → Answers (if b then ack_of f from (transaction f.transactions number) else stale f)
repl_ack_none f from number true = ack_of_none f from (transaction f.transactions number)
repl_ack_none f from number false = tt

ask_none : (f : Facts) (from : ℕ) (key : ClusterKey) (number : ℕ) (d : List ℕ) (b : Bool) → Answers (if b then sends_only (to_one from (message.Answer key number (finite.get f.store.content d))) else stale f)
ask_none f from key number d true = (refl, tt)
ask_none f from key number d false = tt

writing_none : (f : Facts) (l : List ℕ) (t : Transaction) (v : Version) → Answers (writing f l t v)
writing_none f l t v = each_none (other_replicas f l) _ refl

resolving_none : (f : Facts) (clock : ℕ) (l : List ℕ) (t : Transaction) (w : Want) → Answers (resolving_want f clock l t w)
resolving_none f clock l t want.Get = tt
resolving_none f clock l t (want.Put bytes) = writing_none f l t (next t.best clock (body.Value bytes))
resolving_none f clock l t want.Del = writing_none f l t (next t.best clock body.Tombstone)

resolving_if_none : (f : Facts) (clock : ℕ) (t : Transaction) (b : Bool) → Answers (if b then resolving f clock (list_at f (partition_of t.digest)) t else nothing)
resolving_if_none f clock t true = resolving_none f clock _ t t.want
resolving_if_none f clock t false = tt

answered_none : (f : Facts) (clock : ℕ) (t : Transaction) (from : ℕ) (v : Option Version) (b : Bool) → Answers (if b then (if is_last_awaited t from then resolving f clock (list_at f (partition_of (answered f.store.by from v t).digest)) (answered f.store.by from v t) else nothing) else spent f)
answered_none f clock t from v true = resolving_if_none f clock (answered f.store.by from v t) (is_last_awaited t from)
answered_none f clock t from v false = tt

answer_of_none : (f : Facts) (clock from : ℕ) (v : Option Version) (o : Option Transaction) → Answers (answer_of f clock from v o)
answer_of_none f clock from v None = tt
answer_of_none f clock from v (Some t) = answered_none f clock t from v (awaits_answer t from)

answer_none : (f : Facts) (clock from number : ℕ) (v : Option Version) (b : Bool) → Answers (if b then answer_of f clock from v (transaction f.transactions number) else stale f)
answer_none f clock from number v true = answer_of_none f clock from v (transaction f.transactions number)
answer_none f clock from number v false = tt

table_none : (f : Facts) (b : Bool) → Answers (if b then sends_only (to_one client (message.MapTable (map_table f))) else nothing)
table_none f true = (refl, tt)
table_none f false = tt

pub message_none : (n : ℕ) (f : Facts) (clock from : ℕ) (m : Message) → Answers (due_message_of n f clock from m)
message_none n f clock from (message.Heartbeat v promised hears role) = tt
message_none n f clock from (message.Propose k ms) = voting_none f from k _
message_none n f clock from (message.Accept k) = counting_none f from k f.agreement.proposal (proposes f.agreement.proposal k)
message_none n f clock from (message.Refuse k promised) = unless_stale_none f (proposes f.agreement.proposal k)
message_none n f clock from (message.Commit k ms) = entering_if_none f k ms (may_enter_view f k ms)
message_none n f clock from (message.State k wants row) = state_none f (reached f from (message.State k wants row)) from wants (in_view f k)
message_none n f clock from (message.Batch b) = batch_none f from b (in_view f b.key)
message_none n f clock from (message.BatchAck k number) = batch_ack_none f from number (in_view f k)
message_none n f clock from (message.Progress k wants done handed settled) = progress_none n f (reached f from (message.Progress k wants done handed settled)) from wants (in_view f k)
message_none n f clock from (message.Repl k number nth d v) = repl_none f from k number d v (in_view f k)
message_none n f clock from (message.ReplAck k number) = repl_ack_none f from number (in_view f k)
message_none n f clock from (message.Ask k number d) = ask_none f from k number d (in_view f k)
message_none n f clock from (message.Answer k number v) = answer_none f clock from number v (in_view f k)
message_none n f clock from message.MapAsk = table_none f f.exchange.exchanged
message_none n f clock from _ = tt

-- inputs that are messages
abbrev pub AllGets : List Input → Type 0
AllGets [] = Unit {0}
AllGets (Ticks ∷ is) = ⊥
AllGets (Gets a m ∷ is) = AllGets is

-- what messages make a node send is no beat, proposal, batch or question
pub outbox_none : (n c : ℕ) (f : Facts) (is : List Input) → AllGets is → NoneOf asks (outbox n c f is)
outbox_none n c f [] h = tt
outbox_none n c f (Ticks ∷ is) h = absurd h
outbox_none n c f (Gets a m ∷ is) h = none_append asks (sent_at n c f (Gets a m)) _ (none_read asks (due_message_of n f c a m).sends (message_none n f c a m)) (outbox_none n c (acted n c f (Gets a m)) is h)

-- ---- a tick

abbrev pub is_one : ℕ → Bool
is_one k = k == 1

abbrev Silent : Effects → Type 0
Silent e = NoneOf is_one e.sends

each_silent : (ns : List ℕ) (m : Message) → is_one (kind m) ≡ false → NoneOf is_one (to_each ns m)
each_silent [] m h = tt
each_silent (n ∷ ns) m h = (h, each_silent ns m h)

again_none : (f : Facts) (t : Transaction) (o : Option Write) → NoneOf is_one (sends_again f t o)
again_none f t None = each_silent t.awaiting _ refl
again_none f t (Some w) = each_silent t.awaiting (repl f t w) refl

transactions_none : (f : Facts) (ts : List Transaction) → NoneOf is_one (flat_map (λ (t : Transaction). sends_again f t t.applied) ts)
transactions_none f [] = tt
transactions_none f (t ∷ ts) = none_append is_one (sends_again f t t.applied) _ (again_none f t t.applied) (transactions_none f ts)

batches_none : (k : ClusterKey) (c : Content) (ts : Targets) → NoneOf is_one (filter_map (λ (t : Target). batch_to t.node (next_batch k c t)) ts)
batches_none k c [] = tt
batches_none k c (t ∷ ts) = go (next_batch k c t) (batches_none k c ts)
  where
    go : (o : Option Batch) → NoneOf is_one (filter_map (λ (t : Target). batch_to t.node (next_batch k c t)) ts) → NoneOf is_one (cons_option (batch_to t.node o) (filter_map (λ (t : Target). batch_to t.node (next_batch k c t)) ts))
    go None rest = rest
    go (Some b) rest = (refl, rest)

proposing_none : (f : Facts) (k : ClusterKey) (set : List Member) (ns : List ℕ) → Silent (proposal_effects f k set ns)
proposing_none f k set [] = tt
proposing_none f k set (n ∷ ns) = each_silent (n ∷ ns) (message.Propose k set) refl

propose_new_none : (f : Facts) (b : Bool) → Silent (if b then proposal_effects f (next_key f.me f.agreement) (neighbours f) (agreement.others_among f.me (neighbours f)) else nothing)
propose_new_none f true = proposing_none f _ _ _
propose_new_none f false = tt

propose_none : (f : Facts) (o : Option Proposal) → Silent (propose_with f o)
propose_none f (Some p) = each_silent p.missing (message.Propose p.key p.members) refl
propose_none f None = propose_new_none f _

progress_if_none : (n : ℕ) (f : Facts) (b : Bool) → Silent (if b then sends_only (to_each (standing.others f) (progress_message n f true)) else nothing)
progress_if_none n f true = each_silent (others f) _ refl
progress_if_none n f false = tt

abbrev PartNone : Part → Type 0
PartNone part = (f : Facts) → Silent (part f)

abbrev PartsNone : List Part → Type 0
PartsNone [] = Unit {0}
PartsNone (p ∷ ps) = PartNone p × PartsNone ps

in_order_none : (ps : List Part) → PartsNone ps → (f : Facts) → Silent (parts_in_order ps f)
in_order_none [] h f = tt
in_order_none (p ∷ ps) h f = none_append is_one (p f).sends _ (h.0 f) (in_order_none ps h.1 (noted None f (p f).lines))

abbrev pub silent_parts : ℕ → List Part
silent_parts n = propose ∷ rows ∷ transactions ∷ batches ∷ settlings n ∷ progress n ∷ []

silent_none : (n : ℕ) → PartsNone (silent_parts n)
silent_none n = (
  λ f. propose_none f f.agreement.proposal,
  (
    λ f. each_silent _ (state f true) refl,
    (
      λ f. transactions_none f f.transactions.running,
      (
        λ f. batches_none (view_key f) f.store.content f.batches,
        (
          λ f. tt,
          (λ f. progress_if_none n f _, tt),
        ),
      ),
    ),
  ),
)

pub read_append : (xs ys : List (ℕ × Message)) → as_read (xs ++ ys) ≡ as_read xs ++ as_read ys
unfolding as_read
read_append xs ys = filter_map-append reading xs ys

-- it goes to each of these, as it can be read
pub each_among : (m : Message) → message_of (spelling m) ≡ Some m → (ns : List ℕ) (to : ℕ) → Among ns to → Among (as_read (to_each ns m)) (to, m)
unfolding as_read
each_among m r [] to h = absurd h
each_among m r (n ∷ ns) to (inl e) = subst (λ (o : Option Message). Among (cons_option (read_to n o) (as_read (to_each ns m))) (to, m)) (sym r) (inl (ap (λ (k : ℕ). (k, m)) e))
each_among m r (n ∷ ns) to (inr h) = subst (λ (o : Option Message). Among (cons_option (read_to n o) (as_read (to_each ns m))) (to, m)) (sym r) (inr (each_among m r ns to h))

pub among_each : (m : Message) → message_of (spelling m) ≡ Some m → (ns : List ℕ) (to : ℕ) (x : Message) → Among (as_read (to_each ns m)) (to, x) → m ≡ x
unfolding as_read
among_each m r [] to x h = absurd h
among_each m r (n ∷ ns) to x h = go (subst (λ (o : Option Message). Among (cons_option (read_to n o) (as_read (to_each ns m))) (to, x)) r h) (among_each m r ns to x)
  where
    go : Among ((n, m) ∷ as_read (to_each ns m)) (to, x) → (Among (as_read (to_each ns m)) (to, x) → m ≡ x) → m ≡ x
    go (inl e) rest = ap (λ (q : ℕ × Message). q.1) e
    go (inr i) rest = rest i

pub none_among : (test : ℕ → Bool) (ms : List (ℕ × Message)) (to : ℕ) (x : Message) → NoneOf test ms → Among ms (to, x) → test (kind x) ≡ false
none_among test [] to x h i = absurd i
none_among test (m ∷ ms) to x h (inl e) = ap (λ (q : ℕ × Message). test (kind q.1)) (sym e) ∙ h.0
none_among test (m ∷ ms) to x h (inr i) = none_among test ms to x h.1 i

-- what an up node's tick sends: its beat to each peer, and then no beat
pub record TickSends (n c : ℕ) (f : Facts) : Type 0 where
  pub others : List (ℕ × Message)
  pub all : sent_at n c f Ticks ≡ as_read (to_each f.peers (beat_of (after_ages f))) ++ others
  pub silent : NoneOf is_one others

pub tick_sends : (n c : ℕ) (f : Facts) → f.up ≡ true → TickSends n c f
tick_sends n c f up = go f.up up
  where
    rest : Effects
    rest = parts_in_order (silent_parts n) (after_ages f)

    go : (b : Bool) → b ≡ true → TickSends n c f
    go b e = record {
      others = as_read rest.sends;
      all = ap (λ (x : Bool). as_read (if x then parts_in_order (parts n) f else lines_only (line.Down f.me ∷ [])).sends) up ∙ read_append (to_each f.peers (beat_of (after_ages f))) rest.sends;
      silent = none_read is_one rest.sends (in_order_none (silent_parts n) (silent_none n) (after_ages f));
    }
