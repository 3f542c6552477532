-- Which kinds of messages answer which.
use Rattle.std.proofs.Common.{◌≡◌, ℕ, ◌==◌, ◌||◌, not, Bool, true, false, List, [], ◌∷◌, ◌++◌, Option, Some, None, refl, ap, ◌∙◌}
use Rattle.std.specs.Prelude.{flat_map, if◌then◌else◌, ◌&&◌}
use Rattle.std.proofs.lemmas.Bool.{not-false}
use Rattle.conflict_order.specs.declared.version.Version.{Version}
use Rattle.conflict_order.specs.declared.version.Body.TheVariants as body
use Rattle.conflict_order.specs.declared.want.Want.{Want}
use Rattle.conflict_order.specs.declared.want.Want.TheVariants as want
use Rattle.conflict_order.specs.Next.{next}
use Rattle.cluster_types.specs.declared.cluster_key.ClusterKey.{ClusterKey}
use Rattle.cluster_types.specs.declared.member.Member.{Member}
use Rattle.wire_messages.specs.declared.message.Batch.{Batch}
use Rattle.wire_messages.specs.declared.message.Message.{Message}
use Rattle.wire_messages.specs.declared.message.Message.TheVariants as message
use Rattle.node_rules.specs.Agreement as agreement
use Rattle.node_rules.specs.Agreement.{Proposal, proposes, without_missing}
use Rattle.node_rules.specs.Batches.{out_to, has_number}
use Rattle.node_rules.specs.Copies.{is_nil}
use Rattle.node_rules.specs.Effects.{Effects, to_each, lines_and_sends, lines_only, nothing, sends_only, to_one}
use Rattle.node_rules.specs.Facts.{Facts, list_at, view_key}
use Rattle.node_rules.specs.Messages.{commit_effects, accept_effects, ack_of, answer_of, may_enter_view, due_message_of}
use Rattle.node_rules.specs.Notes.{reached, in_view}
use Rattle.node_rules.specs.Resolving.{writing, resolving_want, resolving}
use Rattle.node_rules.specs.Standing.{other_replicas, knows_all_settled}
use Rattle.node_rules.specs.Tables.{contains, only_if}
use Rattle.node_rules.specs.Transactions.{Transaction, transaction, awaits_answer, awaits_ack, answered, is_last_awaited}
use Rattle.cluster_rules.proofs.KeptFacts.{num_same}
use Rattle.cluster_laws.proofs.At.{differ}
use Rattle.run_laws.specs.Tied.{Among}
use Rattle.calm_laws.specs.Acts.{Gets, sent_at}
use Rattle.calm_laws.specs.Group.{replies, kind}
use Rattle.calm_laws.proofs.KindLaws.{NoneOf, none_read}
use Rattle.calm_laws.proofs.Sent.{none_among}
use Rattle.cluster_types.specs.Endpoints.{client}
use Rattle.cluster_types.specs.Partitions.{partition_of}
use Rattle.node_rules.specs.BatchMessages.{merging, merging_all}
use Rattle.node_rules.specs.ClientMessages.{map_table}
use Rattle.node_rules.specs.Entering.{entering}
use Rattle.node_rules.specs.RowMessages.{finishes}
use Rattle.node_rules.specs.StaleMessages.{spent, stale}
use Rattle.node_rules.specs.Tick.{progress_message, state}
use Rattle.std.specs.FinMap as finite
use Rattle.cluster_types.specs.ClusterKeys as keys
use Rattle.journal_lines.specs.declared.line.Line.TheVariants as line

-- whether the kind is none of these
abbrev pub outside : List ℕ → ℕ → Bool
outside ks k = not (contains ks k)

abbrev In : List ℕ → Effects → Type 0
In ks e = NoneOf (outside ks) e.sends

pub each_in : (ks : List ℕ) (ns : List ℕ) (m : Message) → outside ks (kind m) ≡ false → NoneOf (outside ks) (to_each ns m)
each_in ks [] m h = tt
each_in ks (n ∷ ns) m h = (h, each_in ks ns m h)

committing_in : (f : Facts) (p : Proposal) (b : Bool) → In (5 ∷ []) (if b then commit_effects f p else nothing)
committing_in f p true = each_in (5 ∷ []) (agreement.others_among f.me p.members) (message.Commit p.key p.members) refl
committing_in f p false = tt

counting_in : (f : Facts) (from : ℕ) (key : ClusterKey) (o : Option Proposal) (b : Bool) → In (5 ∷ []) (accept_effects f from key o b)
counting_in f from key (Some p) true = committing_in f p (is_nil (without_missing p from).missing)
counting_in f from key (Some p) false = tt
counting_in f from key None b = tt

voting_in : (f : Facts) (from : ℕ) (key : ClusterKey) (b : Bool) → In (3 ∷ 4 ∷ []) (if b then sends_only (to_one from (message.Refuse key f.agreement.promised)) else lines_and_sends (only_if (line.Promise f.me key) (keys.key_lt f.agreement.promised key)) (to_one from (message.Accept key)))
voting_in f from key true = (refl, tt)
voting_in f from key false = (refl, tt)

unless_stale_in : (f : Facts) (b : Bool) → In [] (if b then nothing else stale f)
unless_stale_in f true = tt
unless_stale_in f false = tt

entering_if_in : (f : Facts) (key : ClusterKey) (ms : List Member) (b : Bool) → In [] (if b then lines_only (entering f key ms) else stale f)
entering_if_in f key ms true = tt
entering_if_in f key ms false = tt

answer_state_in : (f : Facts) (from : ℕ) (b : Bool) → NoneOf (outside (6 ∷ [])) (if b then to_one from (state f false) else [])
answer_state_in f from true = (refl, tt)
answer_state_in f from false = tt

state_in : (f now : Facts) (from : ℕ) (wants b : Bool) → In (6 ∷ []) (if b then lines_and_sends (only_if (line.Exchanged f.me (view_key f)) (finishes f now)) (if wants then to_one from (state f false) else []) else stale f)
state_in f now from wants true = answer_state_in f from wants
state_in f now from wants false = tt

batch_in : (f : Facts) (from : ℕ) (b : Batch) (c : Bool) → In (8 ∷ []) (if c then lines_and_sends (merging_all f b.records) (to_one from (message.BatchAck b.key b.number)) else stale f)
batch_in f from b true = (refl, tt)
batch_in f from b false = tt

unless_spent_in : (f : Facts) (b : Bool) → In [] (if b then nothing else spent f)
unless_spent_in f true = tt
unless_spent_in f false = tt

batch_ack_in : (f : Facts) (from number : ℕ) (b : Bool) → In [] (if b then (if has_number (out_to f.batches from) number then nothing else spent f) else stale f)
batch_ack_in f from number true = unless_spent_in f (has_number (out_to f.batches from) number)
batch_ack_in f from number false = tt

answer_progress_in : (n : ℕ) (now : Facts) (from : ℕ) (b : Bool) → In (9 ∷ []) (if b then sends_only (to_one from (progress_message n now false)) else nothing)
answer_progress_in n now from true = (refl, tt)
answer_progress_in n now from false = tt

progress_in : (n : ℕ) (f now : Facts) (from : ℕ) (wants b : Bool) → In (9 ∷ []) (if b then (if wants && knows_all_settled now n 0 then sends_only (to_one from (progress_message n now false)) else nothing) else stale f)
progress_in n f now from wants true = answer_progress_in n now from _
progress_in n f now from wants false = tt

repl_in : (f : Facts) (from : ℕ) (key : ClusterKey) (number : ℕ) (d : List ℕ) (v : Version) (b : Bool) → In (11 ∷ []) (if b then lines_and_sends (merging f d v) (to_one from (message.ReplAck key number)) else stale f)
repl_in f from key number d v true = (refl, tt)
repl_in f from key number d v false = tt

done_by_in : (f : Facts) (t : Transaction) (from : ℕ) (b : Bool) → In [] (if b then lines_only (only_if (line.Done f.me (view_key f) t.number) (is_last_awaited t from)) else spent f)
done_by_in f t from true = tt
done_by_in f t from false = tt

ack_of_in : (f : Facts) (from : ℕ) (o : Option Transaction) → In [] (ack_of f from o)
ack_of_in f from None = tt
ack_of_in f from (Some t) = done_by_in f t from (awaits_ack t from)

repl_ack_in : (f : Facts) (from number : ℕ) (b : Bool) → In [] (if b then ack_of f from (transaction f.transactions number) else stale f)
repl_ack_in f from number true = ack_of_in f from (transaction f.transactions number)
repl_ack_in f from number false = tt

ask_in : (f : Facts) (from : ℕ) (key : ClusterKey) (number : ℕ) (d : List ℕ) (b : Bool) → In (13 ∷ []) (if b then sends_only (to_one from (message.Answer key number (finite.get f.store.content d))) else stale f)
ask_in f from key number d true = (refl, tt)
ask_in f from key number d false = tt

writing_in : (f : Facts) (l : List ℕ) (t : Transaction) (v : Version) → In (10 ∷ []) (writing f l t v)
writing_in f l t v = each_in (10 ∷ []) (other_replicas f l) _ refl

resolving_in : (f : Facts) (clock : ℕ) (l : List ℕ) (t : Transaction) (w : Want) → In (10 ∷ []) (resolving_want f clock l t w)
resolving_in f clock l t want.Get = tt
resolving_in f clock l t (want.Put bytes) = writing_in f l t (next t.best clock (body.Value bytes))
resolving_in f clock l t want.Del = writing_in f l t (next t.best clock body.Tombstone)

resolving_if_in : (f : Facts) (clock : ℕ) (t : Transaction) (b : Bool) → In (10 ∷ []) (if b then resolving f clock (list_at f (partition_of t.digest)) t else nothing)
resolving_if_in f clock t true = resolving_in f clock _ t t.want
resolving_if_in f clock t false = tt

answered_in : (f : Facts) (clock : ℕ) (t : Transaction) (from : ℕ) (v : Option Version) (b : Bool) → In (10 ∷ []) (if b then (if is_last_awaited t from then resolving f clock (list_at f (partition_of (answered f.store.by from v t).digest)) (answered f.store.by from v t) else nothing) else spent f)
answered_in f clock t from v true = resolving_if_in f clock (answered f.store.by from v t) (is_last_awaited t from)
answered_in f clock t from v false = tt

answer_of_in : (f : Facts) (clock from : ℕ) (v : Option Version) (o : Option Transaction) → In (10 ∷ []) (answer_of f clock from v o)
answer_of_in f clock from v None = tt
answer_of_in f clock from v (Some t) = answered_in f clock t from v (awaits_answer t from)

answer_in : (f : Facts) (clock from number : ℕ) (v : Option Version) (b : Bool) → In (10 ∷ []) (if b then answer_of f clock from v (transaction f.transactions number) else stale f)
answer_in f clock from number v true = answer_of_in f clock from v (transaction f.transactions number)
answer_in f clock from number v false = tt

table_in : (f : Facts) (b : Bool) → In (15 ∷ []) (if b then sends_only (to_one client (message.MapTable (map_table f))) else nothing)
table_in f true = (refl, tt)
table_in f false = tt

pub message_in_replies : (n : ℕ) (f : Facts) (clock from : ℕ) (m : Message) → NoneOf (outside (replies (kind m))) (due_message_of n f clock from m).sends
message_in_replies n f clock from (message.Heartbeat v promised hears role) = tt
message_in_replies n f clock from (message.Propose k ms) = voting_in f from k _
message_in_replies n f clock from (message.Accept k) = counting_in f from k f.agreement.proposal (proposes f.agreement.proposal k)
message_in_replies n f clock from (message.Refuse k promised) = unless_stale_in f (proposes f.agreement.proposal k)
message_in_replies n f clock from (message.Commit k ms) = entering_if_in f k ms
    (may_enter_view f k ms)
message_in_replies n f clock from (message.State k wants row) = state_in f (reached f from (message.State k wants row)) from wants (in_view f k)
message_in_replies n f clock from (message.Batch b) = batch_in f from b (in_view f b.key)
message_in_replies n f clock from (message.BatchAck k number) = batch_ack_in f from number (in_view f k)
message_in_replies n f clock from (message.Progress k wants done handed settled) = progress_in n f (reached f from (message.Progress k wants done handed settled)) from wants (in_view f k)
message_in_replies n f clock from (message.Repl k number nth d v) = repl_in f from k number d v (in_view f k)
message_in_replies n f clock from (message.ReplAck k number) = repl_ack_in f from number (in_view f k)
message_in_replies n f clock from (message.Ask k number d) = ask_in f from k number d (in_view f k)
message_in_replies n f clock from (message.Answer k number v) = answer_in f clock from number v (in_view f k)
message_in_replies n f clock from message.MapAsk = table_in f f.exchange.exchanged
message_in_replies n f clock from _ = tt

-- ---- what is sent

-- a message that is sent on another one is of a kind that may answer it
pub answers : (n c : ℕ) (f : Facts) (from : ℕ) (m : Message) (to : ℕ) (x : Message) → Among (sent_at n c f (Gets from m)) (to, x) → contains (replies (kind m)) (kind x) ≡ true
answers n c f from m to x h =
    not-false (contains (replies (kind m)) (kind x))
    (none_among (outside (replies (kind m))) (sent_at n c f (Gets from m)) to x (none_read (outside (replies (kind m))) (due_message_of n f c from m).sends (message_in_replies n f c from m)) h)

contains_front : (xs ys : List ℕ) (x : ℕ) → contains xs x ≡ true → contains (xs ++ ys) x ≡ true
contains_front [] ys x e = differ e refl
contains_front (y ∷ xs) ys x e = go (y == x) e (contains_front xs ys x)
  where
    go : (b : Bool) → (b || contains xs x) ≡ true → (contains xs x ≡ true → contains (xs ++ ys) x ≡ true) → (b || contains (xs ++ ys) x) ≡ true
    go true f rest = refl
    go false f rest = rest f

contains_behind : (xs ys : List ℕ) (x : ℕ) → contains ys x ≡ true → contains (xs ++ ys) x ≡ true
contains_behind [] ys x e = e
contains_behind (y ∷ xs) ys x e = go (y == x) (contains_behind xs ys x e)
  where
    go : (b : Bool) → contains (xs ++ ys) x ≡ true → (b || contains (xs ++ ys) x) ≡ true
    go true f = refl
    go false f = f

-- the kinds that may answer one of these
pub answers_all : (ks : List ℕ) (j k : ℕ) → contains ks j ≡ true → contains (replies j) k ≡ true → contains (flat_map replies ks) k ≡ true
answers_all [] j k e h = differ e refl
answers_all (i ∷ ks) j k e h = go (i == j) refl e (λ f. answers_all ks j k f h)
  where
    go : (b : Bool) → (i == j) ≡ b → (b || contains ks j) ≡ true → (contains ks j ≡ true → contains (flat_map replies ks) k ≡ true) → contains (replies i ++ flat_map replies ks) k ≡ true
    go true s f rest = contains_front (replies i) (flat_map replies ks) k (ap (λ (y : ℕ). contains (replies y) k) (num_same i j s) ∙ h)
    go false s f rest = contains_behind (replies i) (flat_map replies ks) k (rest f)
