-- What a step makes of the facts, by its parts.
use Rattle.std.proofs.Common.{◌≡◌, ℕ, ◌+◌, ◌==◌, Bool, true, false, ◌&&◌, List, [], ◌∷◌, Option, Some, None, map, refl, sym, ap, ◌∙◌, if◌then◌else◌, cond}
use Rattle.std.proofs.lemmas.Bool.{eqb-true}
use Rattle.std.specs.Prelude.{find, ◌++◌}
use Rattle.std.specs.FinMap as finite
use Rattle.conflict_order.specs.declared.version.Version.{Version}
use Rattle.conflict_order.specs.declared.version.Body.TheVariants as body
use Rattle.conflict_order.specs.declared.want.Want.{Want}
use Rattle.conflict_order.specs.declared.want.Want.TheVariants as want
use Rattle.conflict_order.specs.Next.{next}
use Rattle.conflict_order.specs.Order.{is_newer}
use Rattle.cluster_types.specs.declared.cluster_key.ClusterKey.{ClusterKey}
use Rattle.cluster_types.specs.declared.member.Member.{Member}
use Rattle.cluster_types.specs.ClusterKeys.{key_lt}
use Rattle.cluster_types.specs.Partitions.{partition_count, partition_of}
use Rattle.cluster_types.proofs.BoolFacts.{and_left, and_right}
use Rattle.journal_lines.specs.declared.line.Line.TheVariants as line
use Rattle.journal_lines.specs.declared.refusal.Refusal.{Refusal}
use Rattle.wire_messages.specs.declared.message.Batch.{Batch}
use Rattle.wire_messages.specs.declared.message.Message.{Message}
use Rattle.wire_messages.specs.declared.message.Message.TheVariants as message
use Rattle.node_rules.specs.Agreement as agreement
use Rattle.node_rules.specs.Agreement.{Agreement, Proposal, proposes, is_accepted_with, without_missing, accepted_by, agreement_entered}
use Rattle.node_rules.specs.Batches.{out_to, has_number}
use Rattle.node_rules.specs.ByParts.{view_entered, exchanged_if, closed_if, merged_if, with_applied_write, resolved, resolved_by, resolved_with, asked_or_resolved, requested}
use Rattle.node_rules.specs.Copies.{Row, is_nil}
use Rattle.node_rules.specs.Effects.{to_each, lines_and_sends, lines_only, nothing, sends_only, to_one}
use Rattle.node_rules.specs.Entering.{ending, closing, entering}
use Rattle.node_rules.specs.Exchange.{is_single}
use Rattle.node_rules.specs.Facts.{Facts, view_key, list_at}
use Rattle.node_rules.specs.Map.{list_master}
use Rattle.node_rules.specs.Merging.{newer_records, store_merged_all}
use Rattle.node_rules.specs.Messages as due
use Rattle.node_rules.specs.Notes.{note, noted, sent, all_sent, reached, entered, own_row, closed, in_view, row_came, batch_acked, progress_came, write_counted_if, write_came, write_acked, answer_came, opening_transaction, transaction_opened, stopped, started, next_nth}
use Rattle.node_rules.specs.Requests.{request_if, asking, request_refusal}
use Rattle.node_rules.specs.Resolving.{repl, resolving_want, writing, resolving}
use Rattle.node_rules.specs.Standing.{knows_all_settled, other_replicas}
use Rattle.node_rules.specs.Steps.{facts_after, after_message, after_request, after_stop, after_start}
use Rattle.node_rules.specs.Transactions as transactions
use Rattle.node_rules.specs.Transactions.{Transaction, Transactions, Write, transaction, ends_by_ack, closing_if, awaits_ack, awaits_answer, is_last_awaited, acknowledging, answered}
use Rattle.node_rules.proofs.Agreeing.{propose_agrees}
use Rattle.node_rules.proofs.Merged.{merges_facts}
use Rattle.node_rules.proofs.NoteLaws.{noted-append}
use Rattle.node_rules.specs.Tables.{only_if}
use Rattle.cluster_types.specs.Endpoints.{client}
use Rattle.node_rules.specs.BatchMessages.{merging, merging_all}
use Rattle.node_rules.specs.ClientMessages.{map_table}
use Rattle.node_rules.specs.RowMessages.{finishes}
use Rattle.node_rules.specs.StaleMessages.{spent, stale}
use Rattle.node_rules.specs.Tick.{progress_message, state}
use Rattle.node_rules.specs.TransactionMessages.{ack_of, answer_of}
use Rattle.node_rules.specs.VoteMessages.{commit_effects}
use Rattle.cluster_types.specs.ClusterKeys as keys

-- ---- entering

-- other transactions are all that closing lines leave
closing_is : (g : Facts) (me : ℕ) (key : ClusterKey) (ts : List Transaction)
    → noted None g (map (λ t. ending me key t.number t.applied) ts) ≡ record g { transactions = (noted None g (map (λ t. ending me key t.number t.applied) ts)).transactions }
closing_is g me key [] = refl
closing_is g me key (t ∷ ts) = go (closing_is (closed g t.number) me key ts) t.applied
  where
    go : noted None (closed g t.number) (map (λ t. ending me key t.number t.applied) ts)
        ≡ record (closed g t.number) { transactions = (noted None (closed g t.number) (map (λ t. ending me key t.number t.applied) ts)).transactions }
        → (o : Option Write)
        → noted None (note None g (ending me key t.number o)) (map (λ t. ending me key t.number t.applied) ts)
        ≡ record g { transactions = (noted None (note None g (ending me key t.number o)) (map (λ t. ending me key t.number t.applied) ts)).transactions }
    go rest None = rest
    go rest (Some w) = rest

enter_is : (g : Facts) (me : ℕ) (key : ClusterKey) (ms : List Member) (b : Bool)
    → noted None g (line.Enter me key ms ∷ only_if (line.Exchanged me key) b) ≡ exchanged_if (entered g key ms (own_row g)) key b
enter_is g me key ms true = refl
enter_is g me key ms false = refl

pub entering_is : (f g : Facts) (key : ClusterKey) (ms : List Member) → noted None g (entering f key ms) ≡ view_entered g key ms
entering_is f g key ms =
    noted-append None g (closing f) (line.Enter f.me key ms ∷ only_if (line.Exchanged f.me key) (is_single ms))
    ∙ ap (λ (h : Facts). noted None h (line.Enter f.me key ms ∷ only_if (line.Exchanged f.me key) (is_single ms))) (closing_is g f.me (view_key f) f.transactions.running)
    ∙ enter_is (record g { transactions = (noted None g (closing f)).transactions }) f.me key ms (is_single ms)

-- ---- agreement

voted_is : (f : Facts) (from : ℕ) (key : ClusterKey) (b : Bool) → facts_after None f (if b then sends_only (to_one from (message.Refuse key f.agreement.promised)) else lines_and_sends (only_if (line.Promise f.me key) (keys.key_lt f.agreement.promised key)) (to_one from (message.Accept key))) ≡ record f { agreement = (facts_after None f (if b then sends_only (to_one from (message.Refuse key f.agreement.promised)) else lines_and_sends (only_if (line.Promise f.me key) (keys.key_lt f.agreement.promised key)) (to_one from (message.Accept key)))).agreement }
voted_is f from key true = refl
voted_is f from key false = go (key_lt f.agreement.promised key)
  where
    go : (b : Bool) → noted None f (only_if (line.Promise f.me key) b) ≡ record f { agreement = (noted None f (only_if (line.Promise f.me key) b)).agreement }
    go true = refl
    go false = refl

pub propose_is : (f : Facts) (clock from : ℕ) (key : ClusterKey) (ms : List Member)
    → after_message f clock from (message.Propose key ms) ≡ record f { agreement = agreement.voting f.agreement key }
propose_is f clock from key ms =
    voted_is f from key (key_lt key f.agreement.promised)
    ∙ ap (λ (a : Agreement). record f { agreement = a }) (propose_agrees f clock from key ms)

pub refuse_is : (f : Facts) (clock from : ℕ) (key promised : ClusterKey)
    → after_message f clock from (message.Refuse key promised) ≡ record f { agreement = agreement.refusing f.agreement key promised }
refuse_is f clock from key promised = go (proposes f.agreement.proposal key)
  where
    go : (b : Bool) → facts_after None (reached f from (message.Refuse key promised)) (if b then nothing else stale f) ≡ record f { agreement = agreement.refusing f.agreement key promised }
    go true = refl
    go false = refl

commits_go : (g : Facts) (ns : List ℕ) (key : ClusterKey) (ms : List Member) → all_sent g (to_each ns (message.Commit key ms)) ≡ g
commits_go g [] key ms = refl
commits_go g (n ∷ ns) key ms = commits_go g ns key ms

-- nobody enters
counted_is : (f g : Facts) (from : ℕ) (key : ClusterKey) (o : Option Proposal) (b : Bool)
    → (b && is_accepted_with o from) ≡ false
    → facts_after None g (due.accept_effects f from key o b) ≡ g
counted_is f g from key None b e = refl
counted_is f g from key (Some p) false e = refl
counted_is f g from key (Some p) true e = go (is_nil (without_missing p from).missing) e
  where
    go : (b : Bool) → b ≡ false → facts_after None g (if b then commit_effects f p else nothing) ≡ g
    go false e = refl
    go true e = cc

accepted_is : (f : Facts) (from : ℕ) (key : ClusterKey) (b : Bool) → b ≡ false
    → record f { agreement = agreement.accepting f.agreement from key } ≡ record f { agreement = (if b then agreement_entered (agreement.accepting f.agreement from key) key else agreement.accepting f.agreement from key) }
accepted_is f from key false e = refl
accepted_is f from key true e = cc

pub accept_is : (f : Facts) (clock from : ℕ) (key : ClusterKey) → (proposes f.agreement.proposal key && is_accepted_with f.agreement.proposal from) ≡ false
    → after_message f clock from (message.Accept key) ≡ record f { agreement = agreement.counting f.agreement from key }
accept_is f clock from key e =
    counted_is f (reached f from (message.Accept key)) from key f.agreement.proposal (proposes f.agreement.proposal key) e
    ∙ accepted_is f from key (proposes f.agreement.proposal key && is_accepted_with f.agreement.proposal from) e

-- what was accepted is gone as the view is entered
entered_same : (f : Facts) (from : ℕ) (k key : ClusterKey) (ms : List Member) → view_entered (record f { agreement = agreement.accepting f.agreement from k }) key ms ≡ view_entered f key ms
entered_same f from k key ms =
    ap (λ (a : Agreement). exchanged_if (record (entered f key ms (own_row f)) { agreement = a }) key (is_single ms)) (go (proposes f.agreement.proposal k))
  where
    go : (b : Bool) → agreement.agreement_entered (if b then record f.agreement { proposal = accepted_by f.agreement.proposal from } else f.agreement) key ≡ agreement.agreement_entered f.agreement key
    go true = refl
    go false = refl

committed_is : (f g : Facts) (p : Proposal) (b : Bool) → b ≡ true → facts_after None g (if b then commit_effects f p else nothing) ≡ view_entered g p.key p.members
committed_is f g p false e = cc
committed_is f g p true e = commits_go (noted None g (entering f p.key p.members)) (agreement.others_among f.me p.members) p.key p.members ∙ entering_is f g p.key p.members

all_counted : (f g : Facts) (from : ℕ) (key : ClusterKey) (p : Proposal) (b : Bool) → b ≡ true → is_accepted_with (Some p) from ≡ true
    → facts_after None g (due.accept_effects f from key (Some p) b) ≡ view_entered g p.key p.members
all_counted f g from key p false e i = cc
all_counted f g from key p true e i = committed_is f g p (is_nil (without_missing p from).missing) i

pub last_accept_is : (f : Facts) (clock from : ℕ) (key : ClusterKey) (p : Proposal) → f.agreement.proposal ≡ Some p → (proposes (Some p) key && is_accepted_with (Some p) from) ≡ true
    → after_message f clock from (message.Accept key) ≡ view_entered f p.key p.members
last_accept_is f clock from key p e i =
    let g = reached f from (message.Accept key) in
    ap (λ (o : Option Proposal). facts_after None g
    (due.accept_effects f from key o (proposes o key))) e
    ∙ all_counted f g from key p (proposes (Some p) key) (and_left (proposes (Some p) key) _ i) (and_right (proposes (Some p) key) _ i)
    ∙ entered_same f from key p.key p.members

pub commit_is : (f : Facts) (clock from : ℕ) (key : ClusterKey) (ms : List Member)
    → after_message f clock from (message.Commit key ms) ≡ (if due.may_enter_view f key ms then view_entered f key ms else f)
commit_is f clock from key ms = go (due.may_enter_view f key ms)
  where
    go : (b : Bool) → facts_after None f (if b then lines_only (entering f key ms) else stale f) ≡ (if b then view_entered f key ms else f)
    go true = entering_is f f key ms
    go false = refl

-- ---- messages of the view

pub state_is : (f : Facts) (clock from : ℕ) (key : ClusterKey) (wants : Bool) (row : Row)
    → after_message f clock from (message.State key wants row)
    ≡ (if in_view f key then exchanged_if (row_came f from row true) (view_key f) (due.finishes f (row_came f from row true)) else f)
state_is f clock from key wants row = go (in_view f key)
  where
    deep : (b c : Bool) → all_sent (noted None (row_came f from row true) (only_if (line.Exchanged f.me (view_key f)) b)) (if c then to_one from (state f false) else []) ≡ exchanged_if (row_came f from row true) (view_key f) b
    deep true true = refl
    deep true false = refl
    deep false true = refl
    deep false false = refl

    go : (b : Bool) → facts_after None (row_came f from row b) (if b then lines_and_sends (only_if (line.Exchanged f.me (view_key f)) (finishes f (row_came f from row b))) (if wants then to_one from (state f false) else []) else stale f)
        ≡ (if b then exchanged_if (row_came f from row true) (view_key f) (due.finishes f (row_came f from row true)) else f)
    go true = deep (due.finishes f (row_came f from row true)) wants
    go false = refl

pub batch_is : (f : Facts) (clock from : ℕ) (b : Batch)
    → after_message f clock from (message.Batch b) ≡ (if in_view f b.key then record f { store = store_merged_all f.store (view_key f) (newer_records f.store.by f.store.content b.records) } else f)
batch_is f clock from b = go (in_view f b.key)
  where
    go : (c : Bool) → facts_after None f (if c then lines_and_sends (merging_all f b.records) (to_one from (message.BatchAck b.key b.number)) else stale f) ≡ (if c then record f { store = store_merged_all f.store (view_key f) (newer_records f.store.by f.store.content b.records) } else f)
    go true = merges_facts f b.records
    go false = refl

pub batch_ack_is : (f : Facts) (clock from : ℕ) (key : ClusterKey) (number : ℕ) → after_message f clock from (message.BatchAck key number) ≡ batch_acked f from number (in_view f key)
batch_ack_is f clock from key number = go (in_view f key)
  where
    deep : (b c : Bool) → facts_after None (batch_acked f from number b) (if c then nothing else spent f) ≡ batch_acked f from number b
    deep b true = refl
    deep b false = refl

    go : (b : Bool) → facts_after None (batch_acked f from number b) (if b then (if has_number (out_to f.batches from) number then nothing else spent f) else stale f) ≡ batch_acked f from number b
    go true = deep true (has_number (out_to f.batches from) number)
    go false = refl

pub progress_is : (f : Facts) (clock from : ℕ) (key : ClusterKey) (wants : Bool) (done handed settled : List Bool)
    → after_message f clock from (message.Progress key wants done handed settled) ≡ progress_came f from done handed settled (in_view f key)
progress_is f clock from key wants done handed settled = go (in_view f key)
  where
    deep : (g : Facts) (b : Bool)
        → facts_after None g (if b then sends_only (to_one from (progress_message partition_count g false)) else nothing) ≡ g
    deep g true = refl
    deep g false = refl

    go : (b : Bool) → facts_after None (progress_came f from done handed settled b) (if b then (if wants && knows_all_settled (progress_came f from done handed settled b) partition_count 0 then sends_only (to_one from (progress_message partition_count (progress_came f from done handed settled b) false)) else nothing) else stale f) ≡ progress_came f from done handed settled b
    go true = deep (progress_came f from done handed settled true) (wants && knows_all_settled (progress_came f from done handed settled true) partition_count 0)
    go false = refl

pub repl_is : (f : Facts) (clock from : ℕ) (key : ClusterKey) (t nth : ℕ) (digest : List ℕ) (v : Version)
    → after_message f clock from (message.Repl key t nth digest v)
    ≡ (if in_view f key then merged_if (write_counted_if f key (list_at f (partition_of digest)) (partition_of digest) nth (from == list_master (list_at f (partition_of digest)))) (view_key f) digest v
    (is_newer f.store.by v (finite.get f.store.content digest)) else f)
repl_is f clock from key t nth digest v = go (in_view f key)
  where
    heard : Facts
    heard = write_counted_if f key (list_at f (partition_of digest)) (partition_of digest) nth (from == list_master (list_at f (partition_of digest)))

    deep : (b : Bool) → noted None heard (only_if (line.Merge f.me (view_key f) digest v) b) ≡ merged_if heard (view_key f) digest v b
    deep true = refl
    deep false = refl

    go : (b : Bool) → facts_after None (write_came f from key nth (partition_of digest) b) (if b then lines_and_sends (merging f digest v) (to_one from (message.ReplAck key t)) else stale f)
        ≡ (if b then merged_if heard (view_key f) digest v (is_newer f.store.by v (finite.get f.store.content digest)) else f)
    go true = deep (is_newer f.store.by v (finite.get f.store.content digest))
    go false = refl

-- ---- transactions

-- what is found has the number
has_that : (number : ℕ) (ts : List Transaction) (t : Transaction) → find (λ x. x.number == number) ts ≡ Some t → t.number ≡ number
has_that number [] t e = cc
has_that number (x ∷ xs) t e = go (has_that number xs t) (x.number == number) refl e
  where
    go : (find (λ y. y.number == number) xs ≡ Some t → t.number ≡ number) → (b : Bool) → (x.number == number) ≡ b
        → cond b (Some x) (find (λ y. y.number == number) xs) ≡ Some t → t.number ≡ number
    go rest true h i = let same : x ≡ t = cc in ap (λ (y : Transaction). y.number) (sym same) ∙ eqb-true x.number number h
    go rest false h i = rest i

pub repl_ack_is : (f : Facts) (clock from : ℕ) (key : ClusterKey) (t : ℕ)
    → after_message f clock from (message.ReplAck key t)
    ≡ (if in_view f key then record f { transactions = closing_if (acknowledging f.transactions from t) t (ends_by_ack (transaction f.transactions t) from) } else f)
repl_ack_is f clock from key number = go (in_view f key)
  where
    last : (t : Transaction) (b : Bool) → t.number ≡ number
        → noted None (write_acked f from number true) (only_if (line.Done f.me (view_key f) t.number) b) ≡ record f { transactions = closing_if (acknowledging f.transactions from number) number b }
    last t true e = ap (λ (k : ℕ). record f { transactions = transactions.without_transaction (acknowledging f.transactions from number) k }) e
    last t false e = refl

    mid : (t : Transaction) (a : Bool) → t.number ≡ number → facts_after None (write_acked f from number true) (if a then lines_only (only_if (line.Done f.me (view_key f) t.number) (is_last_awaited t from)) else spent f)
        ≡ record f { transactions = closing_if (acknowledging f.transactions from number) number (a && is_last_awaited t from) }
    mid t true e = last t (is_last_awaited t from) e
    mid t false e = refl

    deep : (o : Option Transaction) → transaction f.transactions number ≡ o → facts_after None (write_acked f from number true) (due.ack_of f from o)
        ≡ record f { transactions = closing_if (acknowledging f.transactions from number) number (ends_by_ack o from) }
    deep None e = refl
    deep (Some t) e = mid t (awaits_ack t from) (has_that number f.transactions.running t e)

    go : (b : Bool)
        → facts_after None (write_acked f from number b) (if b then ack_of f from (transaction f.transactions number) else stale f)
        ≡ (if b then record f { transactions = closing_if (acknowledging f.transactions from number) number (ends_by_ack (transaction f.transactions number) from) } else f)
    go true = deep (transaction f.transactions number) refl
    go false = refl

pub ask_is : (f : Facts) (clock from : ℕ) (key : ClusterKey) (t : ℕ) (digest : List ℕ) → after_message f clock from (message.Ask key t digest) ≡ f
ask_is f clock from key t digest = go (in_view f key)
  where
    go : (b : Bool) → facts_after None f (if b then sends_only (to_one from (message.Answer key t (finite.get f.store.content digest))) else stale f) ≡ f
    go true = refl
    go false = refl

repls_go : (g : Facts) (ns : List ℕ) (m : Message) → ((h : Facts) (n : ℕ) → sent h n m ≡ h) → all_sent g (to_each ns m) ≡ g
repls_go g [] m e = refl
repls_go g (n ∷ ns) m e = ap (λ (h : Facts). all_sent h (to_each ns m)) (e g n) ∙ repls_go g ns m e

-- the facts with the transaction resolved, of which its lines are told
wrote_is : (q : Option Want) (f g : Facts) (l : List ℕ) (t : Transaction) (v : Version)
    → g.me ≡ f.me → view_key g ≡ view_key f → other_replicas g l ≡ other_replicas f l → l ≡ list_at g (partition_of t.digest)
    → facts_after q g (writing f l t v) ≡ with_applied_write g l t v
wrote_is q f g l t v me key others here =
    repls_go (noted q g (writing f l t v).lines) (other_replicas f l) (repl f t (record { version = v; nth = next_nth f (partition_of t.digest) })) (λ h n. refl)
    ∙ go (is_nil (other_replicas f l))
    ∙ ap (λ (ns : List ℕ). closed_if (Rattle.node_rules.specs.RecordNotes.write_applied g (view_key g) l t.number t.digest v) t.number (is_nil ns)) (sym others)
  where
    go : (b : Bool) → noted q g (line.Apply f.me (view_key f) t.number t.digest v ∷ only_if (line.Done f.me (view_key f) t.number) b)
        ≡ closed_if (Rattle.node_rules.specs.RecordNotes.write_applied g (view_key g) l t.number t.digest v) t.number b
    go true = rw (sym key, here) refl
    go false = rw (sym key, here) refl

resolved_is : (q : Option Want) (f g : Facts) (clock : ℕ) (l : List ℕ) (t : Transaction) (w : Want)
    → g.me ≡ f.me → view_key g ≡ view_key f → other_replicas g l ≡ other_replicas f l → l ≡ list_at g (partition_of t.digest)
    → facts_after q g (resolving_want f clock l t w) ≡ resolved_by g clock l t w
resolved_is q f g clock l t want.Get me key others here = refl
resolved_is q f g clock l t (want.Put bytes) me key others here = wrote_is q f g l t (next t.best clock (body.Value bytes)) me key others here
resolved_is q f g clock l t want.Del me key others here = wrote_is q f g l t (next t.best clock body.Tombstone) me key others here

pub answer_is : (f : Facts) (clock from : ℕ) (key : ClusterKey) (t : ℕ) (v : Option Version)
    → after_message f clock from (message.Answer key t v) ≡ (if in_view f key then resolved_with (answer_came f from t v true) clock from v (transaction f.transactions t) else f)
answer_is f clock from key number v = go (in_view f key)
  where
    g : Facts
    g = answer_came f from number v true

    last : (t : Transaction) (b : Bool) → facts_after None g (if b then resolving f clock (list_at f (partition_of t.digest)) t else nothing) ≡ (if b then resolved g clock (list_at g (partition_of t.digest)) t else g)
    last t true = resolved_is None f g clock (list_at f (partition_of t.digest)) t t.want refl refl refl refl
    last t false = refl

    mid : (t : Transaction) (a : Bool) → facts_after None g (if a then (if is_last_awaited t from then resolving f clock (list_at f (partition_of (answered f.store.by from v t).digest)) (answered f.store.by from v t) else nothing) else spent f)
        ≡ (if a && is_last_awaited t from then resolved g clock (list_at g (partition_of t.digest)) (answered g.store.by from v t) else g)
    mid t true = last (answered f.store.by from v t) (is_last_awaited t from)
    mid t false = refl

    deep : (o : Option Transaction) → facts_after None g (due.answer_of f clock from v o) ≡ resolved_with g clock from v o
    deep None = refl
    deep (Some t) = mid t (awaits_answer t from)

    go : (b : Bool) → facts_after None (answer_came f from number v b) (if b then answer_of f clock from v (transaction f.transactions number) else stale f) ≡ (if b then resolved_with g clock from v (transaction f.transactions number) else f)
    go true = deep (transaction f.transactions number)
    go false = refl

pub map_ask_is : (f : Facts) (clock from : ℕ) → after_message f clock from message.MapAsk ≡ f
map_ask_is f clock from = go f.exchange.exchanged
  where
    go : (b : Bool) → facts_after None f (if b then sends_only (to_one client (message.MapTable (map_table f))) else nothing) ≡ f
    go true = refl
    go false = refl

-- ---- requests

pub request_is : (f : Facts) (clock : ℕ) (digest : List ℕ) (w : Want)
    → after_request f clock digest w ≡ requested f clock (list_at f (partition_of digest)) digest w (request_refusal f (list_at f (partition_of digest)) digest)
request_is f clock digest w = go (request_refusal f (list_at f (partition_of digest)) digest)
  where
    l : List ℕ
    l = list_at f (partition_of digest)

    t : Transaction
    t = opening_transaction f l (f.transactions.opened + 1) digest w

    g : Facts
    g = transaction_opened f l (f.transactions.opened + 1) digest w

    asked_to : (ns : List ℕ) → facts_after (Some w) g (asking f clock l t ns) ≡ asked_or_resolved g clock l t ns
    asked_to [] = resolved_is (Some w) f g clock l t w refl refl refl refl
    asked_to (n ∷ ns) = repls_go g (n ∷ ns) (message.Ask (view_key f) t.number t.digest) (λ h m. refl)

    go : (o : Option Refusal) → facts_after (Some w) f (request_if f clock l digest w o) ≡ requested f clock l digest w o
    go (Some cause) = refl
    go None = asked_to t.awaiting

-- ---- stops and starts

pub stop_is : (f : Facts) → after_stop f ≡ (if f.up then stopped f else f)
stop_is f = go f.up
  where
    go : (b : Bool) → facts_after None f (if b then lines_only (closing f ++ line.Stop f.me ∷ []) else lines_only (line.Down f.me ∷ [])) ≡ (if b then stopped f else f)
    go true =
        noted-append None f (closing f) (line.Stop f.me ∷ [])
        ∙ ap stopped (closing_is f f.me (view_key f) f.transactions.running)
    go false = refl

pub start_is : (f : Facts) → after_start f ≡ (if f.up then f else started f)
start_is f = go f.up
  where
    go : (b : Bool) → facts_after None f (if b then lines_only (line.Up f.me ∷ []) else lines_only (line.Start f.me ∷ [])) ≡ (if b then f else started f)
    go true = refl
    go false = refl
