-- What is due of every event is sent to other nodes that its sender knows of, or as a table to the client.
use Rattle.std.proofs.Common.{◌≡◌, ℕ, ◌+◌, ◌==◌, Bool, true, false, ◌&&◌, List, [], ◌∷◌, ◌++◌, Option, Some, None, refl, sym, subst, ◌∙◌, inl, inr}
use Rattle.std.specs.Prelude.{filter, filter_map, flat_map, if◌then◌else◌}
use Rattle.std.specs.List.{cons_option}
use Rattle.conflict_order.specs.declared.want.Want.{Want}
use Rattle.conflict_order.specs.declared.want.Want.TheVariants as want
use Rattle.cluster_types.specs.declared.member.Member.{Member}
use Rattle.cluster_types.specs.ClusterKeys as keys
use Rattle.cluster_types.specs.Members.{ids_of}
use Rattle.cluster_types.specs.Partitions.{partition_of}
use Rattle.wire_messages.specs.declared.message.Batch.{Batch}
use Rattle.wire_messages.specs.declared.message.Message.{Message}
use Rattle.wire_messages.specs.declared.message.Message.TheVariants as message
use Rattle.wire_messages.specs.Decoding.{message_of}
use Rattle.wire_messages.specs.Spelling.{spelling}
use Rattle.journal_lines.specs.declared.refusal.Refusal.{Refusal}
use Rattle.node_rules.specs.Agreement as agreement
use Rattle.node_rules.specs.Agreement.{Proposal, enters_alone, next_key}
use Rattle.node_rules.specs.Batches.{Target, Targets, next_batch, has_number, out_to}
use Rattle.node_rules.specs.ByParts.{entered_alone}
use Rattle.node_rules.specs.Copies.{is_nil}
use Rattle.node_rules.specs.Effects.{to_each, lines_and_sends, lines_only, nothing, sends_only, to_one}
use Rattle.node_rules.specs.Exchange.{is_member}
use Rattle.node_rules.specs.Facts.{Facts, view_key, members_of_view, list_at}
use Rattle.node_rules.specs.Hearing.{aged}
use Rattle.node_rules.specs.Map.{lacks}
use Rattle.node_rules.specs.Messages as due
use Rattle.node_rules.specs.Messages.{due_message_of}
use Rattle.node_rules.specs.Notes.{noted, neighbours, after_ages, reached, in_view, opening_transaction}
use Rattle.node_rules.specs.Requests.{due_request, due_stop, due_start, asking, request_if, request_refusal}
use Rattle.node_rules.specs.Resolving.{repl, resolving_want, resolving}
use Rattle.node_rules.specs.Settling.{settling_due}
use Rattle.node_rules.specs.Standing.{others, other_replicas, asked, knows_all_settled}
use Rattle.node_rules.specs.Tables.{contains, only_if}
use Rattle.node_rules.specs.Tick as tick
use Rattle.node_rules.specs.Tick.{tick_of, propose, is_candidate, state, parts, parts_in_order, progress_message, proposal_effects}
use Rattle.node_rules.specs.Transactions.{Transaction, Write, transaction, answered, awaits_ack, awaits_answer, is_last_awaited}
use Rattle.node_rules.proofs.TickParts.{alone_is, among_others_is}
use Rattle.cluster_rules.proofs.OwnLines.{noted_me}
use Rattle.key_laws.specs.Ends.{is_map_ask, IsEnd, OtherNode, TellsIf}
use Rattle.key_laws.specs.Sound.{NodeKeys, Sound}
use Rattle.key_laws.specs.Traced.{Traced}
use Rattle.key_laws.proofs.Addressed.{in_filter, in_without, not_gone, member_id, NodeGoes, TargetsGo, AllAwait, Among, asked_among_others, replicas_among_others, or_left, or_right}
use Rattle.key_laws.proofs.DueDirected.{Alone, alone_in, alone_now, later, nothing_later, same_others, settled_view}
use Rattle.key_laws.proofs.Frames.{num_eq}
use Rattle.key_laws.proofs.NamedLines.{Aware, member_is, neighbours_are, heard_aged}
use Rattle.key_laws.proofs.TableReads.{is_naming, others_tell, table_tells}
use Rattle.node_rules.specs.BatchMessages.{merging, merging_all}
use Rattle.node_rules.specs.ClientMessages.{map_table}
use Rattle.node_rules.specs.Entering.{closing, entering}
use Rattle.node_rules.specs.RowMessages.{finishes}
use Rattle.node_rules.specs.StaleMessages.{spent, stale}
use Rattle.node_rules.specs.TransactionMessages.{ack_of, answer_of}
use Rattle.node_rules.specs.VoteMessages.{commit_effects}
use Rattle.cluster_types.specs.Endpoints as endpoints
use Rattle.std.specs.FinMap as finite
use Rattle.journal_lines.specs.declared.line.Line.TheVariants as line
use Rattle.node_rules.specs.Standing as standing

-- ---- where messages go

-- another end; and a table that goes there names such nodes
pub record SendsRight (P : ℕ → Type 0) (me to : ℕ) (m : Message) : Type 0 where
  pub receiver : IsEnd P to
  pub differ : me ≡ to → ⊥
  pub tells : TellsIf P (message_of (spelling m))

abbrev pub AllRight : (ℕ → Type 0) → ℕ → List (ℕ × Message) → Type 0
AllRight P me [] = Unit {0}
AllRight P me (m ∷ ms) = SendsRight P me m.0 m.1 × AllRight P me ms

pub right_append : (P : ℕ → Type 0) (me : ℕ) (ms more : List (ℕ × Message)) → AllRight P me ms → AllRight P me more → AllRight P me (ms ++ more)
right_append P me [] more h k = k
right_append P me (m ∷ ms) more h k = (h.0, right_append P me ms more h.1 k)

pub one_right : (P : ℕ → Type 0) (me to : ℕ) (m : Message) → is_naming m ≡ false → OtherNode P me to → SendsRight P me to m
one_right P me to m e h = record { receiver = inr h.node; differ = h.differ; tells = others_tell P m e }

each_right : (P : ℕ → Type 0) (me : ℕ) (m : Message) (ns : List ℕ) → is_naming m ≡ false → ((n : ℕ) → contains ns n ≡ true → OtherNode P me n) → AllRight P me (to_each ns m)
each_right P me m [] e h = tt
each_right P me m (n ∷ ns) e h = (one_right P me n m e (h n (or_left (n == n) (contains ns n) (num_eq n n refl))), each_right P me m ns e (λ k i. h k (or_right (n == k) (contains ns k) i)))

-- ---- what a node knows as it sends

pub record Aims (P : ℕ → Type 0) (t : Traced) (f : Facts) : Type 0 where
  pub others : (to : ℕ) → contains (others f) to ≡ true → OtherNode P f.me to
  pub goes : NodeGoes t f

-- of such members the others are other such nodes
pub others_are : (P : ℕ → Type 0) (me : ℕ) (ms : List Member) → ((n : ℕ) → is_member ms n ≡ true → P n) → (to : ℕ) → contains (agreement.others_among me ms) to ≡ true → OtherNode P me to
others_are P me ms h to e = record {
  node = h to (sym (member_id ms to) ∙ in_without (ids_of ms) me to e);
  differ = λ same. not_gone (ids_of ms) me to e (sym same);
}

pub record Knows (P : ℕ → Type 0) (t : Traced) (f : Facts) : Type 0 where
  pub aware : Aware P f
  pub peers : (n : ℕ) → contains f.peers n ≡ true → OtherNode P f.me n
  -- whoever hasn't accepted a proposal is another of its members
  pub missing : (p : Proposal) → f.agreement.proposal ≡ Some p → Among (agreement.others_among f.me p.members) p.missing
  pub goes : NodeGoes t f

aims_of : (P : ℕ → Type 0) (t : Traced) (f : Facts) → Knows P t f → Aims P t f
aims_of P t f h = record {
  others = others_are P f.me (members_of_view f) h.aware.members;
  goes = h.goes;
}

-- ---- parts of a tick

rows_right : (P : ℕ → Type 0) (t : Traced) (f : Facts) → Aims P t f → AllRight P f.me (tick.rows f).sends
rows_right P t f h = each_right P f.me (state f true) (filter (lacks f.exchange.rows) (others f)) refl (λ n e. h.others n (in_filter (lacks f.exchange.rows) (others f) n e).0)

again_right : (P : ℕ → Type 0) (t : Traced) (f : Facts) (x : Transaction) (o : Option Write) → Aims P t f → Among (others f) x.awaiting → AllRight P f.me (tick.sends_again f x o)
again_right P t f x None h a = each_right P f.me _ x.awaiting refl (λ n e. h.others n (a.each n e))
again_right P t f x (Some w) h a = each_right P f.me _ x.awaiting refl (λ n e. h.others n (a.each n e))

all_again_right : (P : ℕ → Type 0) (t : Traced) (f : Facts) (xs : List Transaction) → Aims P t f → AllAwait (others f) xs → AllRight P f.me (flat_map (λ (x : Transaction). tick.sends_again f x x.applied) xs)
all_again_right P t f [] h a = tt
all_again_right P t f (x ∷ xs) h a = right_append P f.me _ _ (again_right P t f x x.applied h a.0) (all_again_right P t f xs h a.1)

batches_from : (P : ℕ → Type 0) (t : Traced) (f : Facts) (xs : Targets) → Aims P t f → TargetsGo t f.me (others f) xs → AllRight P f.me (filter_map (λ (x : Target). tick.batch_to x.node (next_batch (view_key f) f.store.content x)) xs)
batches_from P t f [] h a = tt
batches_from P t f (x ∷ xs) h a = go (next_batch (view_key f) f.store.content x) (batches_from P t f xs h a.1)
  where
    go : (o : Option Batch) → AllRight P f.me (filter_map (λ (x : Target). tick.batch_to x.node (next_batch (view_key f) f.store.content x)) xs)
        → AllRight P f.me (cons_option (tick.batch_to x.node o) (filter_map (λ (x : Target). tick.batch_to x.node (next_batch (view_key f) f.store.content x)) xs))
    go None rest = rest
    go (Some b) rest = (one_right P f.me x.node (message.Batch b) refl (h.others x.node a.0.other), rest)

progress_right : (P : ℕ → Type 0) (n : ℕ) (f : Facts) (me : ℕ) (b : Bool) → ((to : ℕ) → contains (others f) to ≡ true → OtherNode P me to) → AllRight P me (if b then sends_only (to_each (standing.others f) (progress_message n f true)) else nothing).sends
progress_right P n f me true h = each_right P me _ (others f) refl h
progress_right P n f me false h = tt

propose_right : (P : ℕ → Type 0) (f : Facts) → ((p : Proposal) → f.agreement.proposal ≡ Some p → (to : ℕ) → contains p.missing to ≡ true → OtherNode P f.me to) → ((to : ℕ) → contains (agreement.others_among f.me (neighbours f)) to ≡ true → OtherNode P f.me to) → AllRight P f.me (propose f).sends
propose_right P f h i = go f.agreement.proposal refl
  where
    to : (ns : List ℕ) → ((n : ℕ) → contains ns n ≡ true → OtherNode P f.me n) → AllRight P f.me (tick.proposal_effects f (agreement.next_key f.me f.agreement) (neighbours f) ns).sends
    to [] a = tt
    to (n ∷ ns) a = each_right P f.me _ (n ∷ ns) refl a

    new : (b : Bool) → AllRight P f.me (if b then proposal_effects f (next_key f.me f.agreement) (neighbours f) (agreement.others_among f.me (neighbours f)) else nothing).sends
    new true = to (agreement.others_among f.me (neighbours f)) i
    new false = tt

    go : (o : Option Proposal) → f.agreement.proposal ≡ o → AllRight P f.me (tick.propose_with f o).sends
    go (Some p) e = each_right P f.me _ p.missing refl (h p e)
    go None e = new (is_candidate f && agreement.has_round f.agreement)

-- ---- a tick

later_right : (P : ℕ → Type 0) (t : Traced) (n : ℕ) (g i : Facts) → Aims P t g → i.me ≡ g.me → i.exchange ≡ g.exchange → AllRight P g.me (later n g i)
later_right P t n g i h me x =
    right_append P g.me _ _ (rows_right P t g h)
    (right_append P g.me _ _ (all_again_right P t g g.transactions.running h h.goes.waits)
    (right_append P g.me _ _ (batches_from P t g g.batches h h.goes.targets)
    (right_append P g.me (tick.progress n i).sends [] (progress_right P n i g.me _ (λ to e. h.others to (subst (λ ns. contains ns to ≡ true) (same_others g i me x) e))) tt)))

tick_parts_right : (P : ℕ → Type 0) (t : Traced) (n : ℕ) (f : Facts) → Aims P t f → ((n : ℕ) → contains f.peers n ≡ true → OtherNode P f.me n) → AllRight P f.me (propose f).sends
    → AllRight P f.me ((tick.beat f).sends ++ ((propose f).sends ++ later n (noted None f (propose f).lines) (noted None (noted None f (propose f).lines) (settling_due n (noted None f (propose f).lines)))))
tick_parts_right P t n f h peers proposed = right_append P f.me _ _ (each_right P f.me _ f.peers refl peers) (right_append P f.me _ _ proposed (go (enters_alone f.me f.agreement (neighbours f) (is_candidate f)) refl))
  where
    go : (b : Bool) → enters_alone f.me f.agreement (neighbours f) (is_candidate f) ≡ b → AllRight P f.me (later n (noted None f (propose f).lines) (noted None (noted None f (propose f).lines) (settling_due n (noted None f (propose f).lines))))
    go true e =
        let g : Facts = entered_alone f (agreement.next_key f.me f.agreement) (neighbours f) in
        let alone : Alone g = alone_in (record f { agreement = agreement.promising f.agreement (agreement.next_key f.me f.agreement) }) (agreement.next_key f.me f.agreement) (neighbours f) _ (alone_now f (neighbours f) e) in
        let i : Facts = noted None g (settling_due n g) in
        subst (λ (x : Facts). AllRight P f.me (later n x (noted None x (settling_due n x)))) (sym (alone_is f e))
        (subst (λ ms. AllRight P f.me ms) (sym (nothing_later n g i alone (same_others g i (noted_me None g (settling_due n g)) (settled_view n g g.exchange.exchanged)))) tt)
    go false e =
        let g : Facts = record f { agreement = (noted None f (propose f).lines).agreement } in
        let i : Facts = noted None g (settling_due n g) in
        let k : Aims P t g = record { others = h.others; goes = record { targets = h.goes.targets; waits = h.goes.waits } } in
        subst (λ (x : Facts). AllRight P f.me (later n x (noted None x (settling_due n x)))) (sym (among_others_is f e))
        (later_right P t n g i k (noted_me None g (settling_due n g)) (settled_view n g g.exchange.exchanged))

-- a proposal that stands after a tick's line stood before it
pub aged_proposal : (f : Facts) (p : Proposal) → (after_ages f).agreement.proposal ≡ Some p → f.agreement.proposal ≡ Some p
aged_proposal f p e = go (agreement.proposes_set f.agreement.proposal (neighbours (after_ages f))) e
  where
    go : (b : Bool) → (if b then f.agreement.proposal else None) ≡ Some p → f.agreement.proposal ≡ Some p
    go true e = e
    go false e = cc

pub tick_right : (P : ℕ → Type 0) (t : Traced) (n : ℕ) (f : Facts) → Knows P t f → AllRight P f.me (tick_of n f).sends
tick_right P t n f h = go f.up
  where
    g : Facts
    g = after_ages f

    near : (n : ℕ) → is_member (neighbours g) n ≡ true → P n
    near n e = member_is P (neighbours g) n (neighbours_are P f.me f.role (aged f.hearing.heard) h.aware.me (heard_aged (λ n r. P n) f.hearing.heard h.aware.heard)) e

    go : (b : Bool) → AllRight P f.me (if b then parts_in_order (parts n) f else lines_only (line.Down f.me ∷ [])).sends
    go true =
        tick_parts_right P t n g (record { others = (aims_of P t f h).others; goes = record { targets = h.goes.targets; waits = h.goes.waits } }) h.peers
        (propose_right P g (λ p e to c. others_are P f.me p.members (λ n m. member_is P p.members n (h.aware.proposal p (aged_proposal f p e)) m) to ((h.missing p (aged_proposal f p e)).each to c)) (others_are P f.me (neighbours g) near))
    go false = tt

-- ---- messages

resolving_right : (P : ℕ → Type 0) (t : Traced) (f : Facts) (clock : ℕ) (x : Transaction) (w : Want) → Aims P t f → AllRight P f.me (resolving_want f clock (list_at f (partition_of x.digest)) x w).sends
resolving_right P t f clock x w h = go w
  where
    all : (y : Write) → AllRight P f.me (to_each (other_replicas f (list_at f (partition_of x.digest))) (repl f x y))
    all y = each_right P f.me _ (other_replicas f (list_at f (partition_of x.digest))) refl (λ n e. h.others n ((replicas_among_others f (partition_of x.digest)).each n e))

    go : (w : Want) → AllRight P f.me (resolving_want f clock (list_at f (partition_of x.digest)) x w).sends
    go want.Get = tt
    go (want.Put bytes) = all _
    go want.Del = all _

-- what is known as a message comes: of all kinds but one its sender is another such node
pub record Comes (P : ℕ → Type 0) (t : Traced) (f : Facts) (from : ℕ) (m : Message) : Type 0 where
  pub knows : Knows P t f
  pub from_other : is_map_ask m ≡ false → OtherNode P f.me from
  pub sound : Sound t
  pub keys : NodeKeys t f.me f
  -- and the client isn't the node
  pub client : f.me ≡ due.client → ⊥

pub message_right : (P : ℕ → Type 0) (n : ℕ) (t : Traced) (f : Facts) (clock from : ℕ) (m : Message) → Comes P t f from m → AllRight P f.me (due_message_of n f clock from m).sends
message_right P n t f clock from (message.Heartbeat view promised hears role) c = tt
message_right P n t f clock from (message.Propose k ms) c = go (keys.key_lt k f.agreement.promised)
  where
    go : (b : Bool) → AllRight P f.me (if b then sends_only (to_one from (message.Refuse k f.agreement.promised)) else lines_and_sends (only_if (line.Promise f.me k) (keys.key_lt f.agreement.promised k)) (to_one from (message.Accept k))).sends
    go true = (one_right P f.me from _ refl (c.from_other refl), tt)
    go false = (one_right P f.me from _ refl (c.from_other refl), tt)
message_right P n t f clock from (message.Accept k) c = go f.agreement.proposal refl (agreement.proposes f.agreement.proposal k)
  where
    deep : (p : Proposal) → f.agreement.proposal ≡ Some p → (b : Bool) → AllRight P f.me (if b then commit_effects f p else nothing).sends
    deep p e true = each_right P f.me _ (agreement.others_among f.me p.members) refl (others_are P f.me p.members (λ n m. member_is P p.members n (c.knows.aware.proposal p e) m))
    deep p e false = tt

    go : (o : Option Proposal) → f.agreement.proposal ≡ o → (b : Bool) → AllRight P f.me (due.accept_effects f from k o b).sends
    go (Some p) e true = deep p e (is_nil (agreement.without_missing p from).missing)
    go (Some p) e false = tt
    go None e b = tt
message_right P n t f clock from (message.Refuse k promised) c = go (agreement.proposes f.agreement.proposal k)
  where
    go : (b : Bool) → AllRight P f.me (if b then nothing else stale f).sends
    go true = tt
    go false = tt
message_right P n t f clock from (message.Commit k ms) c = go (due.may_enter_view f k ms)
  where
    go : (b : Bool) → AllRight P f.me (if b then lines_only (entering f k ms) else stale f).sends
    go true = tt
    go false = tt
message_right P n t f clock from (message.State k wants row) c = go (in_view f k)
  where
    answer : (b : Bool) → AllRight P f.me (if b then to_one from (state f false) else [])
    answer true = (one_right P f.me from _ refl (c.from_other refl), tt)
    answer false = tt

    go : (b : Bool) → AllRight P f.me (if b then lines_and_sends (only_if (line.Exchanged f.me (view_key f)) (finishes f (reached f from (message.State k wants row)))) (if wants then to_one from (state f false) else []) else stale f).sends
    go true = answer wants
    go false = tt
message_right P n t f clock from (message.Batch b) c = go (in_view f b.key)
  where
    go : (x : Bool) → AllRight P f.me (if x then lines_and_sends (merging_all f b.records) (to_one from (message.BatchAck b.key b.number)) else stale f).sends
    go true = (one_right P f.me from _ refl (c.from_other refl), tt)
    go false = tt
message_right P n t f clock from (message.BatchAck k number) c = go (in_view f k)
  where
    deep : (b : Bool) → AllRight P f.me (if b then nothing else spent f).sends
    deep true = tt
    deep false = tt

    go : (b : Bool) → AllRight P f.me (if b then (if has_number (out_to f.batches from) number then nothing else spent f) else stale f).sends
    go true = deep _
    go false = tt
message_right P n t f clock from (message.Progress k wants done handed settled) c = go (in_view f k)
  where
    now : Facts
    now = reached f from (message.Progress k wants done handed settled)

    answer : (b : Bool) → AllRight P f.me (if b then sends_only (to_one from (progress_message n now false)) else nothing).sends
    answer true = (one_right P f.me from _ refl (c.from_other refl), tt)
    answer false = tt

    go : (b : Bool) → AllRight P f.me (if b then (if wants && knows_all_settled now n 0 then sends_only (to_one from (progress_message n now false)) else nothing) else stale f).sends
    go true = answer _
    go false = tt
message_right P n t f clock from (message.Repl k number nth d v) c = go (in_view f k)
  where
    go : (b : Bool) → AllRight P f.me (if b then lines_and_sends (merging f d v) (to_one from (message.ReplAck k number)) else stale f).sends
    go true = (one_right P f.me from _ refl (c.from_other refl), tt)
    go false = tt
message_right P n t f clock from (message.ReplAck k number) c = go (in_view f k)
  where
    deep : (x : Transaction) (b : Bool) → AllRight P f.me (if b then lines_only (only_if (line.Done f.me (view_key f) x.number) (is_last_awaited x from)) else spent f).sends
    deep x true = tt
    deep x false = tt

    ack : (o : Option Transaction) → AllRight P f.me (due.ack_of f from o).sends
    ack None = tt
    ack (Some x) = deep x (awaits_ack x from)

    go : (b : Bool) → AllRight P f.me (if b then ack_of f from (transaction f.transactions number) else stale f).sends
    go true = ack (transaction f.transactions number)
    go false = tt
message_right P n t f clock from (message.Ask k number d) c = go (in_view f k)
  where
    go : (b : Bool) → AllRight P f.me (if b then sends_only (to_one from (message.Answer k number (finite.get f.store.content d))) else stale f).sends
    go true = (one_right P f.me from _ refl (c.from_other refl), tt)
    go false = tt
message_right P n t f clock from (message.Answer k number v) c = go (in_view f k)
  where
    last : (x : Transaction) (b : Bool) → AllRight P f.me (if b then resolving f clock (list_at f (partition_of x.digest)) x else nothing).sends
    last x true = resolving_right P t f clock x x.want (aims_of P t f c.knows)
    last x false = tt

    deep : (x : Transaction) (b : Bool) → AllRight P f.me (if b then (if is_last_awaited x from then resolving f clock (list_at f (partition_of (answered f.store.by from v x).digest)) (answered f.store.by from v x) else nothing) else spent f).sends
    deep x true = last (answered f.store.by from v x) (is_last_awaited x from)
    deep x false = tt

    answer : (o : Option Transaction) → AllRight P f.me (due.answer_of f clock from v o).sends
    answer None = tt
    answer (Some x) = deep x (awaits_answer x from)

    go : (b : Bool) → AllRight P f.me (if b then answer_of f clock from v (transaction f.transactions number) else stale f).sends
    go true = answer (transaction f.transactions number)
    go false = tt
message_right P n t f clock from message.MapAsk c = go f.exchange.exchanged
  where
    go : (b : Bool) → AllRight P f.me (if b then sends_only (to_one endpoints.client (message.MapTable (map_table f))) else nothing).sends
    go true = (record { receiver = inl refl; differ = c.client; tells = table_tells P t f c.sound c.keys c.knows.aware.members }, tt)
    go false = tt
message_right P n t f clock from _ c = tt

-- ---- requests, stops and starts

pub request_right : (P : ℕ → Type 0) (t : Traced) (f : Facts) (clock : ℕ) (d : List ℕ) (w : Want) → Knows P t f → AllRight P f.me (due_request f clock d w).sends
request_right P t f clock d w k = go (request_refusal f (list_at f (partition_of d)) d)
  where
    h : Aims P t f
    h = aims_of P t f k

    new : Facts → Transaction
    new g = opening_transaction g (list_at g (partition_of d)) (g.transactions.opened + 1) d w

    asks : (ns : List ℕ) → Among (others f) ns → AllRight P f.me (asking f clock (list_at f (partition_of d)) (new f) ns).sends
    asks [] a = resolving_right P t f clock (new f) w h
    asks (n ∷ ns) a = each_right P f.me _ (n ∷ ns) refl (λ m e. h.others m (a.each m e))

    go : (o : Option Refusal) → AllRight P f.me (request_if f clock (list_at f (partition_of d)) d w o).sends
    go (Some cause) = tt
    go None = asks (asked f (list_at f (partition_of d)) (partition_of d)) (asked_among_others f (partition_of d))

pub stop_right : (P : ℕ → Type 0) (a : ℕ) (f : Facts) → AllRight P a (due_stop f).sends
stop_right P a f = go f.up
  where
    go : (b : Bool) → AllRight P a (if b then lines_only (closing f ++ line.Stop f.me ∷ []) else lines_only (line.Down f.me ∷ [])).sends
    go true = tt
    go false = tt

pub start_right : (P : ℕ → Type 0) (a : ℕ) (f : Facts) → AllRight P a (due_start f).sends
start_right P a f = go f.up
  where
    go : (b : Bool) → AllRight P a (if b then lines_only (line.Up f.me ∷ []) else lines_only (line.Start f.me ∷ [])).sends
    go true = tt
    go false = tt
