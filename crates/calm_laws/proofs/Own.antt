-- The lines that are due of a node's tick and of a message at it are its own.
use Rattle.std.proofs.Common.{◌≡◌, ℕ, zero, suc, ◌+◌, Bool, true, false, List, [], ◌∷◌, ◌++◌, map, Option, Some, None, refl, subst, ◌∙◌, if◌then◌else◌, ◌&&◌}
use Rattle.conflict_order.specs.declared.want.Want.{Want}
use Rattle.conflict_order.specs.declared.want.Want.TheVariants as want
use Rattle.conflict_order.specs.declared.version.Version.{Version}
use Rattle.conflict_order.specs.declared.version.Body.TheVariants as body
use Rattle.conflict_order.specs.Next.{next}
use Rattle.cluster_types.specs.declared.cluster_key.ClusterKey.{ClusterKey}
use Rattle.cluster_types.specs.declared.member.Member.{Member}
use Rattle.wire_messages.specs.declared.message.Batch.{Batch}
use Rattle.wire_messages.specs.declared.message.Message.{Message}
use Rattle.wire_messages.specs.declared.message.Message.TheVariants as message
use Rattle.journal_lines.specs.declared.line.Line.{Line}
use Rattle.journal_lines.specs.declared.line.Line.TheVariants as line
use Rattle.node_rules.specs.Agreement.{Proposal, proposes, without_missing, next_key}
use Rattle.node_rules.specs.Batches.{out_to, has_number}
use Rattle.node_rules.specs.Copies.{is_nil}
use Rattle.node_rules.specs.Effects.{Effects, lines_and_sends, lines_only, nothing, sends_only, to_each, to_one}
use Rattle.node_rules.specs.Entering.{ending, closing, entering}
use Rattle.node_rules.specs.Exchange.{is_single}
use Rattle.node_rules.specs.Facts.{Facts, list_at, view_key}
use Rattle.node_rules.specs.Messages.{commit_effects, accept_effects, finishes, ack_of, answer_of, may_enter_view, merging, merging_all, due_message_of}
use Rattle.node_rules.specs.Notes.{note, noted, reached, in_view, after_ages, neighbours}
use Rattle.node_rules.specs.Resolving.{writing, resolving_want, resolving}
use Rattle.node_rules.specs.Settling.{drop, hand, learn, settle, settling_at, settling_from}
use Rattle.node_rules.specs.Standing.{other_replicas, knows_all_settled, others}
use Rattle.node_rules.specs.Tick.{Part, parts_in_order, beat, propose, proposal_effects, propose_with, rows, transactions, batches, settlings, progress, tick_of, parts, progress_message, state}
use Rattle.node_rules.specs.Transactions.{Transaction, Write, transaction, awaits_answer, awaits_ack, answered, is_last_awaited}
use Rattle.node_rules.specs.Tables.{only_if}
use Rattle.cluster_rules.specs.NodeSteps.{IsOf}
use Rattle.cluster_rules.proofs.OwnLines.{noted_me}
use Rattle.cluster_types.specs.Endpoints.{client}
use Rattle.cluster_types.specs.Partitions.{partition_of}
use Rattle.node_rules.specs.ClientMessages.{map_table}
use Rattle.node_rules.specs.StaleMessages.{spent, stale}
use Rattle.node_rules.specs.Agreement as agreement
use Rattle.std.specs.FinMap as finite
use Rattle.cluster_types.specs.ClusterKeys as keys

-- ---- own lines

-- the line is one of that node that leaves its role and whether it runs, or adds nothing
abbrev pub OwnLine : ℕ → Line → Type 0
OwnLine a (line.Stop n) = ⊥
OwnLine a (line.Start n) = ⊥
OwnLine a (line.Quiesce n) = ⊥
OwnLine a (line.Unquiesce n) = ⊥
OwnLine a (line.Opened n k t d w) = ⊥
OwnLine a l = IsOf a l

abbrev pub OwnLines : ℕ → List Line → Type 0
OwnLines a [] = Unit {0}
OwnLines a (l ∷ ls) = OwnLine a l × OwnLines a ls

-- the same, and the line isn't that of its tick
abbrev pub Steady : ℕ → Line → Type 0
Steady a (line.Tick n) = ⊥
Steady a l = OwnLine a l

abbrev pub AllSteady : ℕ → List Line → Type 0
AllSteady a [] = Unit {0}
AllSteady a (l ∷ ls) = Steady a l × AllSteady a ls

pub steady_own : (a : ℕ) (l : Line) → Steady a l → OwnLine a l
steady_own a (line.Tick n) h = absurd h
steady_own a l h = h

pub all_steady_own : (a : ℕ) (ls : List Line) → AllSteady a ls → OwnLines a ls
all_steady_own a [] h = tt
all_steady_own a (l ∷ ls) h = (steady_own a l h.0, all_steady_own a ls h.1)

pub own_append : (a : ℕ) (ls ms : List Line) → AllSteady a ls → AllSteady a ms → AllSteady a (ls ++ ms)
own_append a [] ms h i = i
own_append a (l ∷ ls) ms h i = (h.0, own_append a ls ms h.1 i)

line_if_own : (a : ℕ) (l : Line) (b : Bool) → Steady a l → AllSteady a (only_if l b)
line_if_own a l true h = (h, tt)
line_if_own a l false h = tt

-- ---- a node stays who it is

pub note_me : (q : Option Want) (f : Facts) (l : Line) → (note q f l).me ≡ f.me
note_me q f (line.Tick n) = refl
note_me q f l = refl

-- ---- an entry

ending_own : (a : ℕ) (k : ClusterKey) (number : ℕ) (o : Option Write) → Steady a (ending a k number o)
ending_own a k number None = refl
ending_own a k number (Some w) = refl

closing_from : (a : ℕ) (k : ClusterKey) (xs : List Transaction) → AllSteady a (map (λ (x : Transaction). ending a k x.number x.applied) xs)
closing_from a k [] = tt
closing_from a k (x ∷ xs) = (ending_own a k x.number x.applied, closing_from a k xs)

exchanging_own : (a : ℕ) (k : ClusterKey) (b : Bool) → AllSteady a (only_if (line.Exchanged a k) b)
exchanging_own a k true = (refl, tt)
exchanging_own a k false = tt

pub entering_own : (f : Facts) (k : ClusterKey) (ms : List Member) → AllSteady f.me (entering f k ms)
entering_own f k ms = own_append f.me (closing f) _ (closing_from f.me (view_key f) f.transactions.running) (refl, exchanging_own f.me k (is_single ms))

-- ---- messages

abbrev Owns : Facts → Effects → Type 0
Owns f e = AllSteady f.me e.lines

merging_all_own : (a : ℕ) (f : Facts) (rs : List (List ℕ × Version)) → f.me ≡ a → AllSteady a (merging_all f rs)
merging_all_own a f [] e = tt
merging_all_own a f (r ∷ rs) e =
    own_append a (merging f r.0 r.1) _ (line_if_own a _ _ e) (merging_all_own a (noted None f (merging f r.0 r.1)) rs (noted_me None f (merging f r.0 r.1) ∙ e))

counting_own : (f : Facts) (from : ℕ) (key : ClusterKey) (o : Option Proposal) (b : Bool) → Owns f (accept_effects f from key o b)
counting_own f from key (Some p) true = go (is_nil (without_missing p from).missing)
  where
    go : (b : Bool) → Owns f (if b then commit_effects f p else nothing)
    go true = entering_own f p.key p.members
    go false = tt
counting_own f from key (Some p) false = (tt, tt)
counting_own f from key None b = (tt, tt)

voting_own : (f : Facts) (from : ℕ) (key : ClusterKey) (b : Bool)
    → Owns f (if b then sends_only (to_one from (message.Refuse key f.agreement.promised)) else lines_and_sends (only_if (line.Promise f.me key) (keys.key_lt f.agreement.promised key)) (to_one from (message.Accept key)))
voting_own f from key true = tt
voting_own f from key false = line_if_own f.me _ _ refl

unless_stale_own : (f : Facts) (b : Bool) → Owns f (if b then nothing else stale f)
unless_stale_own f true = tt
unless_stale_own f false = (tt, tt)

entering_if_own : (f : Facts) (key : ClusterKey) (ms : List Member) (b : Bool) → Owns f (if b then lines_only (entering f key ms) else stale f)
entering_if_own f key ms true = entering_own f key ms
entering_if_own f key ms false = (tt, tt)

state_own : (f now : Facts) (from : ℕ) (wants b : Bool) → Owns f (if b then lines_and_sends (only_if (line.Exchanged f.me (view_key f)) (finishes f now)) (if wants then to_one from (state f false) else []) else stale f)
state_own f now from wants true = line_if_own f.me _ (finishes f now) refl
state_own f now from wants false = (tt, tt)

unless_spent_own : (f : Facts) (b : Bool) → Owns f (if b then nothing else spent f)
unless_spent_own f true = tt
unless_spent_own f false = (tt, tt)

batch_ack_own : (f : Facts) (from number : ℕ) (b : Bool) → Owns f (if b then (if has_number (out_to f.batches from) number then nothing else spent f) else stale f)
batch_ack_own f from number true = unless_spent_own f (has_number (out_to f.batches from) number)
batch_ack_own f from number false = (tt, tt)

answer_progress_own : (n : ℕ) (f now : Facts) (from : ℕ) (b : Bool) → Owns f (if b then sends_only (to_one from (progress_message n now false)) else nothing)
answer_progress_own n f now from true = tt
answer_progress_own n f now from false = tt

progress_own : (n : ℕ) (f now : Facts) (from : ℕ) (wants b : Bool) → Owns f (if b then (if wants && knows_all_settled now n 0 then sends_only (to_one from (progress_message n now false)) else nothing) else stale f)
progress_own n f now from wants true = answer_progress_own n f now from _
progress_own n f now from wants false = (tt, tt)

done_by_own : (f : Facts) (t : Transaction) (from : ℕ) (b : Bool) → Owns f (if b then lines_only (only_if (line.Done f.me (view_key f) t.number) (is_last_awaited t from)) else spent f)
done_by_own f t from true = line_if_own f.me _ (is_last_awaited t from) refl
done_by_own f t from false = (tt, tt)

ack_of_own : (f : Facts) (from : ℕ) (o : Option Transaction) → Owns f (ack_of f from o)
ack_of_own f from None = (tt, tt)
ack_of_own f from (Some t) = done_by_own f t from (awaits_ack t from)

repl_ack_own : (f : Facts) (from number : ℕ) (b : Bool) → Owns f (if b then ack_of f from (transaction f.transactions number) else stale f)
repl_ack_own f from number true = ack_of_own f from (transaction f.transactions number)
repl_ack_own f from number false = (tt, tt)

ask_own : (f : Facts) (from : ℕ) (key : ClusterKey) (number : ℕ) (d : List ℕ) (b : Bool) → Owns f (if b then sends_only (to_one from (message.Answer key number (finite.get f.store.content d))) else stale f)
ask_own f from key number d true = tt
ask_own f from key number d false = (tt, tt)

done_own : (f : Facts) (number : ℕ) (b : Bool) → AllSteady f.me (only_if (line.Done f.me (view_key f) number) b)
done_own f number true = (refl, tt)
done_own f number false = tt

writing_own : (f : Facts) (l : List ℕ) (t : Transaction) (v : Version) → Owns f (writing f l t v)
writing_own f l t v = (refl, done_own f t.number (is_nil (other_replicas f l)))

resolving_own : (f : Facts) (clock : ℕ) (l : List ℕ) (t : Transaction) (w : Want) → Owns f (resolving_want f clock l t w)
resolving_own f clock l t want.Get = (refl, tt)
resolving_own f clock l t (want.Put bytes) = writing_own f l t (next t.best clock (body.Value bytes))
resolving_own f clock l t want.Del = writing_own f l t (next t.best clock body.Tombstone)

resolving_if_own : (f : Facts) (clock : ℕ) (t : Transaction) (b : Bool) → Owns f (if b then resolving f clock (list_at f (partition_of t.digest)) t else nothing)
resolving_if_own f clock t true = resolving_own f clock _ t t.want
resolving_if_own f clock t false = tt

answered_own : (f : Facts) (clock : ℕ) (t : Transaction) (from : ℕ) (v : Option Version) (b : Bool) → Owns f (if b then (if is_last_awaited t from then resolving f clock (list_at f (partition_of (answered f.store.by from v t).digest)) (answered f.store.by from v t) else nothing) else spent f)
answered_own f clock t from v true = resolving_if_own f clock (answered f.store.by from v t) (is_last_awaited t from)
answered_own f clock t from v false = (tt, tt)

answer_of_own : (f : Facts) (clock from : ℕ) (v : Option Version) (o : Option Transaction) → Owns f (answer_of f clock from v o)
answer_of_own f clock from v None = (tt, tt)
answer_of_own f clock from v (Some t) = answered_own f clock t from v (awaits_answer t from)

answer_own : (f : Facts) (clock from number : ℕ) (v : Option Version) (b : Bool) → Owns f (if b then answer_of f clock from v (transaction f.transactions number) else stale f)
answer_own f clock from number v true = answer_of_own f clock from v (transaction f.transactions number)
answer_own f clock from number v false = (tt, tt)

table_own : (f : Facts) (b : Bool) → Owns f (if b then sends_only (to_one client (message.MapTable (map_table f))) else nothing)
table_own f true = tt
table_own f false = tt

batch_own : (f : Facts) (from : ℕ) (b : Batch) (c : Bool) → Owns f (if c then lines_and_sends (merging_all f b.records) (to_one from (message.BatchAck b.key b.number)) else stale f)
batch_own f from b true = merging_all_own f.me f b.records refl
batch_own f from b false = (tt, tt)

repl_own : (f : Facts) (from : ℕ) (key : ClusterKey) (number : ℕ) (d : List ℕ) (v : Version) (b : Bool) → Owns f (if b then lines_and_sends (merging f d v) (to_one from (message.ReplAck key number)) else stale f)
repl_own f from key number d v true = line_if_own f.me _ _ refl
repl_own f from key number d v false = (tt, tt)

-- the lines that are due of a message are its receiver's
pub message_steady : (n : ℕ) (f : Facts) (clock from : ℕ) (m : Message) → AllSteady f.me (due_message_of n f clock from m).lines
message_steady n f clock from (message.Heartbeat v promised hears role) = tt
message_steady n f clock from (message.Propose k ms) = voting_own f from k _
message_steady n f clock from (message.Accept k) = counting_own f from k f.agreement.proposal (proposes f.agreement.proposal k)
message_steady n f clock from (message.Refuse k promised) = unless_stale_own f (proposes f.agreement.proposal k)
message_steady n f clock from (message.Commit k ms) = entering_if_own f k ms (may_enter_view f k ms)
message_steady n f clock from (message.State k wants row) = state_own f (reached f from (message.State k wants row)) from wants (in_view f k)
message_steady n f clock from (message.Batch b) = batch_own f from b (in_view f b.key)
message_steady n f clock from (message.BatchAck k number) = batch_ack_own f from number (in_view f k)
message_steady n f clock from (message.Progress k wants done handed settled) = progress_own n f (reached f from (message.Progress k wants done handed settled)) from wants (in_view f k)
message_steady n f clock from (message.Repl k number nth d v) = repl_own f from k number d v (in_view f k)
message_steady n f clock from (message.ReplAck k number) = repl_ack_own f from number (in_view f k)
message_steady n f clock from (message.Ask k number d) = ask_own f from k number d (in_view f k)
message_steady n f clock from (message.Answer k number v) = answer_own f clock from number v (in_view f k)
message_steady n f clock from message.MapAsk = table_own f f.exchange.exchanged
message_steady n f clock from _ = (tt, tt)

pub message_own : (n : ℕ) (f : Facts) (clock from : ℕ) (m : Message) → OwnLines f.me (due_message_of n f clock from m).lines
message_own n f clock from m = all_steady_own f.me _ (message_steady n f clock from m)

-- ---- ticks

settling_at_own : (a : ℕ) (l : List ℕ) (p : ℕ) (f : Facts) → f.me ≡ a → AllSteady a (settling_at l p f)
settling_at_own a l p f e =
    let f1 : Facts = noted None f (hand f l p) in
    let f2 : Facts = noted None f1 (settle f1 l p) in
    let f3 : Facts = noted None f2 (learn f2 l p) in
    let e1 : f1.me ≡ a = noted_me None f (hand f l p) ∙ e in
    let e2 : f2.me ≡ a = noted_me None f1 (settle f1 l p) ∙ e1 in
    let e3 : f3.me ≡ a = noted_me None f2 (learn f2 l p) ∙ e2 in
    own_append a (hand f l p) _ (line_if_own a (line.Handed f.me (view_key f) p) _ e)
    (own_append a (settle f1 l p) _ (line_if_own a (line.Settled f1.me (view_key f1) p) _ e1)
    (own_append a (learn f2 l p) (drop f3 l p) (line_if_own a (line.Learn f2.me (view_key f2) p) _ e2) (line_if_own a (line.Drop f3.me (view_key f3) p) _ e3)))

settling_from_own : (a n p : ℕ) (f : Facts) → f.me ≡ a → AllSteady a (settling_from n p f)
unfolding settling_from
settling_from_own a zero p f e = tt
settling_from_own a (suc n) p f e =
    own_append a (settling_at (list_at f p) p f) _ (settling_at_own a (list_at f p) p f e)
    (settling_from_own a n (p + 1) (noted None f (settling_at (list_at f p) p f)) (noted_me None f (settling_at (list_at f p) p f) ∙ e))

settling_own : (n : ℕ) (f : Facts) (b : Bool) → AllSteady f.me (if b then settling_from n 0 f else [])
settling_own n f true = settling_from_own f.me n 0 f refl
settling_own n f false = tt

abbrev PartOwn : Part → Type 0
PartOwn part = (f : Facts) → AllSteady f.me (part f).lines

abbrev PartsOwn : List Part → Type 0
PartsOwn [] = Unit {0}
PartsOwn (p ∷ ps) = PartOwn p × PartsOwn ps

in_order_own : (ps : List Part) → PartsOwn ps → (f : Facts)
    → AllSteady f.me (parts_in_order ps f).lines
in_order_own [] h f = tt
in_order_own (p ∷ ps) h f =
    own_append f.me (p f).lines _ (h.0 f) (subst (λ (a : ℕ). AllSteady a (parts_in_order ps (noted None f (p f).lines)).lines) (noted_me None f (p f).lines) (in_order_own ps h.1 (noted None f (p f).lines)))

proposing_own : (f : Facts) (k : ClusterKey) (set : List Member) (ns : List ℕ) → Owns f (proposal_effects f k set ns)
proposing_own f k set [] = (refl, entering_own f k set)
proposing_own f k set (n ∷ ns) = (refl, tt)

propose_new_own : (f : Facts) (b : Bool) → Owns f (if b then proposal_effects f (next_key f.me f.agreement) (neighbours f) (agreement.others_among f.me (neighbours f)) else nothing)
propose_new_own f true = proposing_own f _ _ _
propose_new_own f false = tt

propose_own : (f : Facts) (o : Option Proposal) → Owns f (propose_with f o)
propose_own f (Some p) = tt
propose_own f None = propose_new_own f _

progress_if_own : (n : ℕ) (f : Facts) (b : Bool) → Owns f (if b then sends_only (to_each (others f) (progress_message n f true)) else nothing)
progress_if_own n f true = tt
progress_if_own n f false = tt

-- the parts of a tick but the first, which is its line
abbrev pub later_parts : ℕ → List Part
later_parts n = beat ∷ propose ∷ rows ∷ transactions ∷ batches ∷ settlings n ∷ progress n ∷ []

parts_own : (n : ℕ) → PartsOwn (later_parts n)
parts_own n = (
  λ f. tt,
  (
    λ f. propose_own f f.agreement.proposal,
    (
      λ f. tt,
      (
        λ f. tt,
        (
          λ f. tt,
          (
            λ f. settling_own n f f.exchange.exchanged,
            (λ f. progress_if_own n f _, tt),
          ),
        ),
      ),
    ),
  ),
)

pub later_steady : (n : ℕ) (f : Facts) → AllSteady f.me (parts_in_order (later_parts n) f).lines
later_steady n f = in_order_own (later_parts n) (parts_own n) f

-- the lines that are due of a tick are the node's
pub tick_own : (n : ℕ) (f : Facts) → OwnLines f.me (tick_of n f).lines
tick_own n f = go f.up
  where
    go : (b : Bool) → OwnLines f.me (if b then parts_in_order (parts n) f else lines_only (line.Down f.me ∷ [])).lines
    go true = (refl, all_steady_own f.me _ (later_steady n (after_ages f)))
    go false = (tt, tt)
