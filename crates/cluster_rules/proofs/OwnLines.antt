-- The lines of what a node does are its own.
use Rattle.std.proofs.Common.{◌≡◌, ℕ, zero, suc, ◌+◌, Bool, true, false, List, [], ◌∷◌, ◌++◌, Option, Some, None, map, refl, subst, ◌∙◌, if◌then◌else◌, ◌&&◌}
use Rattle.conflict_order.specs.declared.version.Version.{Version}
use Rattle.conflict_order.specs.declared.want.Want.{Want}
use Rattle.conflict_order.specs.declared.want.Want.TheVariants as want
use Rattle.cluster_types.specs.declared.cluster_key.ClusterKey.{ClusterKey}
use Rattle.cluster_types.specs.declared.member.Member.{Member}
use Rattle.cluster_types.specs.Partitions.{partition_of}
use Rattle.journal_lines.specs.declared.line.Line.{Line}
use Rattle.journal_lines.specs.declared.line.Line.TheVariants as line
use Rattle.journal_lines.specs.declared.refusal.Refusal.{Refusal}
use Rattle.wire_messages.specs.declared.message.Message.{Message}
use Rattle.wire_messages.specs.declared.message.Message.TheVariants as message
use Rattle.node_rules.specs.Agreement as agreement
use Rattle.node_rules.specs.Agreement.{Proposal, next_key}
use Rattle.node_rules.specs.Entering.{ending, closing, entering}
use Rattle.node_rules.specs.Facts.{Facts, view_key, list_at}
use Rattle.node_rules.specs.Messages as due
use Rattle.node_rules.specs.Messages.{due_message_of}
use Rattle.node_rules.specs.Notes.{note, noted, neighbours, opening_transaction, reached, in_view}
use Rattle.node_rules.specs.Requests.{due_request, due_stop, due_start, asking, request_refusal, request_if}
use Rattle.node_rules.specs.Resolving.{resolving_want, resolving}
use Rattle.node_rules.specs.Settling.{hand, settle, learn, drop, lines_then, settling_at, settling_from}
use Rattle.node_rules.specs.Tick as tick
use Rattle.node_rules.specs.Tick.{Part, parts_in_order, tick_of, parts, progress_message, proposal_effects, state}
use Rattle.node_rules.specs.Transactions.{Transaction, Write, answered, is_last_awaited, transaction}
use Rattle.node_rules.specs.Tables.{only_if}
use Rattle.cluster_rules.specs.NodeSteps.{IsOf, AreOf}
use Rattle.cluster_types.specs.Endpoints.{client}
use Rattle.node_rules.specs.BatchMessages.{merging, merging_all}
use Rattle.node_rules.specs.Batches.{has_number, out_to}
use Rattle.node_rules.specs.ClientMessages.{map_table}
use Rattle.node_rules.specs.Effects.{lines_and_sends, lines_only, nothing, sends_only, to_each, to_one}
use Rattle.node_rules.specs.RowMessages.{finishes}
use Rattle.node_rules.specs.StaleMessages.{spent, stale}
use Rattle.node_rules.specs.Standing.{knows_all_settled, others}
use Rattle.node_rules.specs.TransactionMessages.{ack_of, answer_of}
use Rattle.node_rules.specs.VoteMessages.{commit_effects}
use Rattle.std.specs.FinMap as finite
use Rattle.cluster_types.specs.ClusterKeys as keys

note_me : (q : Option Want) (f : Facts) (l : Line) → (note q f l).me ≡ f.me
note_me q f (line.Tick n) = refl
note_me q f (line.Stop n) = refl
note_me q f (line.Start n) = refl
note_me q f (line.Quiesce n) = refl
note_me q f (line.Unquiesce n) = refl
note_me q f (line.Promise n key) = refl
note_me q f (line.Enter n key ms) = refl
note_me q f (line.Exchanged n key) = refl
note_me q f (line.Opened n key t d a) = refl
note_me q f (line.Value n key t d v) = refl
note_me q f (line.Apply n key t d v) = refl
note_me q f (line.Done n key t) = refl
note_me q f (line.Aborted n key t) = refl
note_me q f (line.Doubt n key t) = refl
note_me q f (line.Merge n key d v) = refl
note_me q f (line.Handed n key p) = refl
note_me q f (line.Settled n key p) = refl
note_me q f (line.Learn n key p) = refl
note_me q f (line.Drop n key p) = refl
note_me q f _ = refl

pub noted_me : (q : Option Want) (f : Facts) (ls : List Line) → (noted q f ls).me ≡ f.me
noted_me q f [] = refl
noted_me q f (l ∷ ls) = noted_me q (note q f l) ls ∙ note_me q f l

are_append : (n : ℕ) (ls more : List Line) → AreOf n ls → AreOf n more → AreOf n (ls ++ more)
are_append n [] more a b = b
are_append n (l ∷ ls) more a b = (a.0, are_append n ls more a.1 b)

one_if : (n : ℕ) (l : Line) (b : Bool) → IsOf n l → AreOf n (only_if l b)
one_if n l true h = (h, tt)
one_if n l false h = tt

-- lines, and those of the facts with them
then_own : (f : Facts) (first : List Line) (rest : Facts → List Line) → AreOf f.me first → ((g : Facts) → AreOf g.me (rest g)) → AreOf f.me (first ++ rest (noted None f first))
then_own f first rest a b = are_append f.me first (rest (noted None f first)) a (subst (λ n. AreOf n (rest (noted None f first))) (noted_me None f first) (b (noted None f first)))

-- ---- entering

ending_own : (n : ℕ) (key : ClusterKey) (number : ℕ) (o : Option Write) → IsOf n (ending n key number o)
ending_own n key number None = refl
ending_own n key number (Some w) = refl

closing_own : (n : ℕ) (key : ClusterKey) (ts : List Transaction) → AreOf n (map (λ t. ending n key t.number t.applied) ts)
closing_own n key [] = tt
closing_own n key (t ∷ ts) = (ending_own n key t.number t.applied, closing_own n key ts)

exchanging_own : (n : ℕ) (key : ClusterKey) (b : Bool) → AreOf n (only_if (line.Exchanged n key) b)
exchanging_own n key true = (refl, tt)
exchanging_own n key false = tt

entering_own : (f : Facts) (key : ClusterKey) (ms : List Member) → AreOf f.me (entering f key ms)
entering_own f key ms = are_append f.me (closing f) _ (closing_own f.me (view_key f) f.transactions.running) (refl, exchanging_own f.me key _)

-- ---- a tick

propose_own : (f : Facts) → AreOf f.me (tick.propose f).lines
propose_own f = go f.agreement.proposal
  where
    deep : (ns : List ℕ) → AreOf f.me (tick.proposal_effects f (agreement.next_key f.me f.agreement) (neighbours f) ns).lines
    deep [] = (refl, entering_own f (agreement.next_key f.me f.agreement) (neighbours f))
    deep (n ∷ ns) = (refl, tt)

    new : (b : Bool) → AreOf f.me (if b then proposal_effects f (next_key f.me f.agreement) (neighbours f) (agreement.others_among f.me (neighbours f)) else nothing).lines
    new true = deep (agreement.others_among f.me (neighbours f))
    new false = tt

    go : (o : Option Proposal) → AreOf f.me (tick.propose_with f o).lines
    go (Some p) = tt
    go None = new _

settling_at_own : (l : List ℕ) (p : ℕ) (f : Facts) → AreOf f.me (settling_at l p f)
settling_at_own l p f =
    then_own f (hand f l p) (lines_then (λ f. settle f l p) (lines_then (λ f. learn f l p) (λ f. drop f l p))) (one_if f.me _ _ refl)
    (λ g. then_own g (settle g l p) (lines_then (λ f. learn f l p) (λ f. drop f l p)) (one_if g.me _ _ refl)
    (λ h. then_own h (learn h l p) (λ f. drop f l p) (one_if h.me _ _ refl) (λ k. one_if k.me _ _ refl)))

settling_from_own : (n p : ℕ) (f : Facts) → AreOf f.me (settling_from n p f)
unfolding settling_from
settling_from_own zero p f = tt
settling_from_own (suc n) p f =
    then_own f (settling_at (list_at f p) p f) (settling_from n (p + 1)) (settling_at_own (list_at f p) p f) (λ g. settling_from_own n (p + 1) g)

settling_own : (n : ℕ) (f : Facts) (b : Bool) → AreOf f.me (if b then settling_from n 0 f else [])
settling_own n f true = settling_from_own n 0 f
settling_own n f false = tt

progress_own : (n : ℕ) (f : Facts) (b : Bool) → AreOf f.me (if b then sends_only (to_each (others f) (progress_message n f true)) else nothing).lines
progress_own n f true = tt
progress_own n f false = tt

abbrev AllOwn : List Part → Type 0
AllOwn [] = Unit {0}
AllOwn (part ∷ parts) = ((f : Facts) → AreOf f.me (part f).lines) × AllOwn parts

in_order_own : (parts : List Part) → AllOwn parts → (f : Facts) → AreOf f.me (parts_in_order parts f).lines
in_order_own [] h f = tt
in_order_own (part ∷ parts) h f = then_own f (part f).lines (λ g. (parts_in_order parts g).lines) (h.0 f) (λ g. in_order_own parts h.1 g)

pub tick_own : (n : ℕ) (f : Facts) → AreOf f.me (tick_of n f).lines
tick_own n f = go f.up
  where
    go : (b : Bool) → AreOf f.me (if b then parts_in_order (parts n) f else lines_only (line.Down f.me ∷ [])).lines
    go true =
        in_order_own (tick.parts n)
        (λ g. (refl, tt), (λ g. tt, (propose_own, (λ g. tt, (λ g. tt, (λ g. tt, (λ g. settling_own n g g.exchange.exchanged, (λ g. progress_own n g _, tt))))))))
        f
    go false = (tt, tt)

-- ---- messages

voting_own : (f : Facts) (from : ℕ) (key : ClusterKey) (b : Bool) → AreOf f.me (if b then sends_only (to_one from (message.Refuse key f.agreement.promised)) else lines_and_sends (only_if (line.Promise f.me key) (keys.key_lt f.agreement.promised key)) (to_one from (message.Accept key))).lines
voting_own f from key true = tt
voting_own f from key false = one_if f.me _ _ refl

committing_own : (f : Facts) (p : Proposal) (b : Bool) → AreOf f.me (if b then commit_effects f p else nothing).lines
committing_own f p true = entering_own f p.key p.members
committing_own f p false = tt

counting_own : (f : Facts) (from : ℕ) (key : ClusterKey) (o : Option Proposal) (b : Bool) → AreOf f.me (due.accept_effects f from key o b).lines
counting_own f from key (Some p) true = committing_own f p _
counting_own f from key (Some p) false = (tt, tt)
counting_own f from key None b = (tt, tt)

stale_own : (f : Facts) (b : Bool) → AreOf f.me (if b then nothing else stale f).lines
stale_own f true = tt
stale_own f false = (tt, tt)

spent_own : (f : Facts) (b : Bool) → AreOf f.me (if b then nothing else spent f).lines
spent_own f true = tt
spent_own f false = (tt, tt)

commit_own : (f : Facts) (key : ClusterKey) (ms : List Member) (b : Bool) → AreOf f.me (if b then lines_only (entering f key ms) else stale f).lines
commit_own f key ms true = entering_own f key ms
commit_own f key ms false = (tt, tt)

state_own : (f now : Facts) (from : ℕ) (wants b : Bool) → AreOf f.me (if b then lines_and_sends (only_if (line.Exchanged f.me (view_key f)) (finishes f now)) (if wants then to_one from (state f false) else []) else stale f).lines
state_own f now from wants true = one_if f.me _ _ refl
state_own f now from wants false = (tt, tt)

merging_own : (f : Facts) (rs : List (List ℕ × Version)) → AreOf f.me (due.merging_all f rs)
merging_own f [] = tt
merging_own f (r ∷ rs) = then_own f (due.merging f r.0 r.1) (λ g. due.merging_all g rs) (one_if f.me _ _ refl) (λ g. merging_own g rs)

progressed_own : (n : ℕ) (f now : Facts) (from : ℕ) (wants b : Bool) → AreOf f.me (if b then (if wants && knows_all_settled now n 0 then sends_only (to_one from (progress_message n now false)) else nothing) else stale f).lines
progressed_own n f now from wants true = go _
  where
    go : (c : Bool) → AreOf f.me (if c then sends_only (to_one from (progress_message n now false)) else nothing).lines
    go true = tt
    go false = tt
progressed_own n f now from wants false = (tt, tt)

acked_own : (f : Facts) (from number : ℕ) (b : Bool) → AreOf f.me (if b then ack_of f from (transaction f.transactions number) else stale f).lines
acked_own f from number true = go _
  where
    deep : (t : Transaction) (c : Bool) → AreOf f.me (if c then lines_only (only_if (line.Done f.me (view_key f) t.number) (is_last_awaited t from)) else spent f).lines
    deep t true = one_if f.me _ _ refl
    deep t false = (tt, tt)

    go : (o : Option Transaction) → AreOf f.me (due.ack_of f from o).lines
    go None = (tt, tt)
    go (Some t) = deep t _
acked_own f from number false = (tt, tt)

done_own : (f : Facts) (number : ℕ) (b : Bool) → AreOf f.me (only_if (line.Done f.me (view_key f) number) b)
done_own f number true = (refl, tt)
done_own f number false = tt

resolving_own : (f : Facts) (clock : ℕ) (l : List ℕ) (t : Transaction) (w : Want) → AreOf f.me (resolving_want f clock l t w).lines
resolving_own f clock l t want.Get = (refl, tt)
resolving_own f clock l t (want.Put bytes) = (refl, done_own f t.number _)
resolving_own f clock l t want.Del = (refl, done_own f t.number _)

answered_own : (f : Facts) (clock from number : ℕ) (v : Option Version) (b : Bool) → AreOf f.me (if b then answer_of f clock from v (transaction f.transactions number) else stale f).lines
answered_own f clock from number v true = go _
  where
    last : (t : Transaction) (c : Bool) → AreOf f.me (if c then resolving f clock (list_at f (partition_of t.digest)) t else nothing).lines
    last t true = resolving_own f clock _ t t.want
    last t false = tt

    deep : (t : Transaction) (c : Bool) → AreOf f.me (if c then (if is_last_awaited t from then resolving f clock (list_at f (partition_of (answered f.store.by from v t).digest)) (answered f.store.by from v t) else nothing) else spent f).lines
    deep t true = last (answered f.store.by from v t) (is_last_awaited t from)
    deep t false = (tt, tt)

    go : (o : Option Transaction) → AreOf f.me (due.answer_of f clock from v o).lines
    go None = (tt, tt)
    go (Some t) = deep t _
answered_own f clock from number v false = (tt, tt)

pub message_own : (n : ℕ) (f : Facts) (clock from : ℕ) (m : Message) → AreOf f.me (due_message_of n f clock from m).lines
message_own n f clock from (message.Heartbeat view promised hears role) = tt
message_own n f clock from (message.Propose key ms) = voting_own f from key _
message_own n f clock from (message.Accept key) = counting_own f from key f.agreement.proposal _
message_own n f clock from (message.Refuse key promised) = stale_own f _
message_own n f clock from (message.Commit key ms) = commit_own f key ms _
message_own n f clock from (message.State key wants row) = state_own f (reached f from (message.State key wants row)) from wants (in_view f key)
message_own n f clock from (message.Batch b) = go _
  where
    go : (c : Bool) → AreOf f.me (if c then lines_and_sends (merging_all f b.records) (to_one from (message.BatchAck b.key b.number)) else stale f).lines
    go true = merging_own f b.records
    go false = (tt, tt)
message_own n f clock from (message.BatchAck key number) = go _
  where
    go : (c : Bool) → AreOf f.me (if c then (if has_number (out_to f.batches from) number then nothing else spent f) else stale f).lines
    go true = spent_own f _
    go false = (tt, tt)
message_own n f clock from (message.Progress key wants done handed settled) = progressed_own n f (reached f from (message.Progress key wants done handed settled)) from wants (in_view f key)
message_own n f clock from (message.Repl key t nth d v) = go _
  where
    go : (c : Bool) → AreOf f.me (if c then lines_and_sends (merging f d v) (to_one from (message.ReplAck key t)) else stale f).lines
    go true = one_if f.me _ _ refl
    go false = (tt, tt)
message_own n f clock from (message.ReplAck key t) = acked_own f from t _
message_own n f clock from (message.Ask key t d) = go _
  where
    go : (c : Bool) → AreOf f.me (if c then sends_only (to_one from (message.Answer key t (finite.get f.store.content d))) else stale f).lines
    go true = tt
    go false = (tt, tt)
message_own n f clock from (message.Answer key t v) = answered_own f clock from t v _
message_own n f clock from message.MapAsk = go _
  where
    go : (c : Bool) → AreOf f.me (if c then sends_only (to_one client (message.MapTable (map_table f))) else nothing).lines
    go true = tt
    go false = tt
message_own n f clock from _ = (tt, tt)

-- ---- requests, stops and starts

pub request_own : (f : Facts) (clock : ℕ) (d : List ℕ) (w : Want) → AreOf f.me (due_request f clock d w).lines
request_own f clock d w = go (request_refusal f (list_at f (partition_of d)) d)
  where
    new : Facts → Transaction
    new g = opening_transaction g (list_at g (partition_of d)) (g.transactions.opened + 1) d w

    asks : (l : List ℕ) (t : Transaction) (ns : List ℕ) → AreOf f.me (asking f clock l t ns).lines
    asks l t [] = resolving_own f clock l t t.want
    asks l t (n ∷ ns) = tt

    go : (o : Option Refusal) → AreOf f.me (request_if f clock (list_at f (partition_of d)) d w o).lines
    go (Some cause) = (tt, tt)
    go None = (refl, asks (list_at f (partition_of d)) (new f) (new f).awaiting)

pub stop_own : (f : Facts) → AreOf f.me (due_stop f).lines
stop_own f = go f.up
  where
    go : (b : Bool) → AreOf f.me (if b then lines_only (closing f ++ line.Stop f.me ∷ []) else lines_only (line.Down f.me ∷ [])).lines
    go true = are_append f.me (closing f) _ (closing_own f.me (view_key f) f.transactions.running) (refl, tt)
    go false = (tt, tt)

pub start_own : (f : Facts) → AreOf f.me (due_start f).lines
start_own f = go f.up
  where
    go : (b : Bool) → AreOf f.me (if b then lines_only (line.Up f.me ∷ []) else lines_only (line.Start f.me ∷ [])).lines
    go true = (tt, tt)
    go false = (refl, tt)
