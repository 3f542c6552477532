-- Lines of nodes that have requests of others, and of the client's requests and scans, name nodes of which something holds, as
-- that they are declared, and their messages go right.
use Rattle.std.proofs.Common.{◌≡◌, ℕ, ◌+◌, ◌==◌, Bool, true, false, cond, List, [], ◌∷◌, ◌++◌, map, Option, Some, None, refl, sym, inl, inr, if◌then◌else◌}
use Rattle.std.specs.Prelude.{find, option_map}
use Rattle.conflict_order.specs.Contents.{Record}
use Rattle.conflict_order.specs.declared.want.Want.{Want}
use Rattle.conflict_order.specs.declared.want.Want.TheVariants as want
use Rattle.cluster_types.specs.declared.cluster_key.ClusterKey.{ClusterKey}
use Rattle.cluster_types.specs.Copies.{is_of}
use Rattle.cluster_types.specs.Endpoints.{client}
use Rattle.cluster_types.specs.Partitions.{partition_of}
use Rattle.journal_lines.specs.declared.line.Line.{Line}
use Rattle.journal_lines.specs.declared.line.Line.TheVariants as line
use Rattle.journal_lines.specs.declared.refusal.Refusal.{Refusal}
use Rattle.journal_lines.specs.declared.refusal.Refusal.TheVariants as refusal
use Rattle.wire_messages.specs.declared.message.Message.{Message}
use Rattle.wire_messages.specs.declared.message.Message.TheVariants as message
use Rattle.wire_messages.specs.declared.reply.ReplyBody.{ReplyBody}
use Rattle.wire_messages.specs.declared.scan.ScanPage.{ScanPage}
use Rattle.wire_messages.specs.declared.scan.ScanRefusal.{ScanRefusal}
use Rattle.wire_messages.specs.Keys.{IsKeyOrNone}
use Rattle.wire_messages.specs.Nodes.{IsId}
use Rattle.node_rules.specs.Client.{Tables, node_for}
use Rattle.node_rules.specs.Effects.{Effects, lines_only, sends_only}
use Rattle.node_rules.specs.Facts.{Facts, view_key, list_at, members_of_view}
use Rattle.node_rules.specs.Copies.{is_nil}
use Rattle.node_rules.specs.Notes.{in_view, opening_transaction}
use Rattle.node_rules.specs.Requests.{asking, due_request, map_refusal, request_if, request_refusal}
use Rattle.node_rules.specs.Resolving.{resolving_want}
use Rattle.node_rules.specs.StaleMessages.{stale}
use Rattle.node_rules.specs.Standing.{acts, knows_settled, other_replicas}
use Rattle.node_rules.specs.Tables.{only_if}
use Rattle.node_rules.specs.Transactions.{Transaction}
use Rattle.request_rules.specs.declared.call.Call.{Call}
use Rattle.request_rules.specs.declared.call.CallStep.{CallStep}
use Rattle.request_rules.specs.declared.call.CallStep.TheVariants as call
use Rattle.request_rules.specs.declared.passed.Passed.{Passed}
use Rattle.request_rules.specs.declared.passed.ReplyStep.{ReplyStep}
use Rattle.request_rules.specs.declared.passed.ReplyStep.TheVariants as replied
use Rattle.request_rules.specs.declared.scanning.Scanning.{Scanning}
use Rattle.request_rules.specs.declared.scanning.ScanStep.{ScanStep}
use Rattle.request_rules.specs.declared.scanning.ScanStep.TheVariants as scan
use Rattle.request_rules.specs.declared.taken.Asker.{Asker}
use Rattle.request_rules.specs.declared.taken.Outcome.{Outcome}
use Rattle.request_rules.specs.declared.taken.Outcome.TheVariants as outcome
use Rattle.request_rules.specs.declared.taken.Taken.{Taken}
use Rattle.request_rules.specs.ByNumber.{ByNumber, item_under}
use Rattle.request_rules.specs.Calls.{call_step, called, called_again, calling_again_if, calling_named, is_full, reply_lines}
use Rattle.request_rules.specs.Dressing.{with_requests}
use Rattle.request_rules.specs.NodeMessages.{due_at_node_of, taking, taking_if}
use Rattle.request_rules.specs.Pages.{acting_scan_refusal, on_scan_ask, open_refusal, page_limit, page_of, scan_answer, scan_page, scan_refusal, scan_refusal_after, settled_refusal}
use Rattle.request_rules.specs.Passing.{given_up, leaves, on_proxy_reply, passed_on, passing, passing_again, passing_if, proxied_if, proxy_of, reply_step, waits_for, with_given_up}
use Rattle.request_rules.specs.Replies.{asker_of}
use Rattle.request_rules.specs.Requests.{Calls, NodeRequests, PassedOn, Scans}
use Rattle.request_rules.specs.Scans.{asked_on, page_lines, partition_of_scan, record_lines, scan_step, scanning_named, scanning_on_if, unscanned_if}
use Rattle.request_rules.specs.TakenUp.{outcome_for, same_asker}
use Rattle.cluster_rules.specs.DueEvents.{sent_lines, written}
use Rattle.cluster_rules.specs.Network.{Network, has_place}
use Rattle.cluster_rules.specs.RequestEvents.{due_at_client_from}
use Rattle.cluster_rules.specs.World.{World}
use Rattle.key_laws.specs.Ends.{OtherNode, ReplyNames, ScanCauseNames, Tells, AllName}
use Rattle.key_laws.specs.Sound.{NodeKeys, Sound}
use Rattle.key_laws.specs.Traced.{Traced}
use Rattle.key_laws.proofs.Addressed.{differ}
use Rattle.key_laws.proofs.Askers.{AllTakenFrom, AllWaitFor, AskerFrom, LinesAsk, OtherEnd, OutcomeNames, none_ask, owed_right, reply_right}
use Rattle.key_laws.proofs.Frames.{num_eq}
use Rattle.key_laws.proofs.NamedLines.{Aware, CauseIf, Commits, in_list, map_cause, message_name, refusal_cause, request_name}
use Rattle.key_laws.proofs.NamedSends.{AllRight, Comes, Knows, message_right, one_right, request_right, right_append}
use Rattle.key_laws.proofs.RequestWire.{scan_no_tells}
use Rattle.key_laws.proofs.TableReads.{each_listed, named_in, others_tell}

-- ---- what requests add to a step

given_up_name : (P : ℕ → Type 0) (me : ℕ) (key : ClusterKey) (ps : ByNumber Passed) (ls : List Line) → P me → AllName P ls → AllName P (map (given_up me key) ps ++ ls)
given_up_name P me key [] ls one h = h
given_up_name P me key (p ∷ ps) ls one h = (one, given_up_name P me key ps ls one h)

lines_name : (P : ℕ → Type 0) (me : ℕ) (key : ClusterKey) (ps : ByNumber Passed) (ls : List Line) → P me → AllName P ls → AllName P (with_given_up ps key me ls)
lines_name P me key ps [] one h = tt
lines_name P me key ps (l ∷ ls) one h = go (leaves me l) (lines_name P me key ps ls one h.1)
  where
    go : (b : Bool) → AllName P (with_given_up ps key me ls) → AllName P (cond b (map (given_up me key) ps ++ l ∷ ls) (l ∷ with_given_up ps key me ls))
    go true rest = given_up_name P me key ps (l ∷ ls) one h
    go false rest = (h.0, rest)

pub dressed_name : (P : ℕ → Type 0) (r : NodeRequests) (f : Facts) (a : Option Asker) (e : Effects) → P f.me → AllName P e.lines → AllName P (with_requests r f a e).lines
dressed_name P r f a e one h = lines_name P f.me (view_key f) r.passed.waiting e.lines one h

pub dressed_right : (P : ℕ → Type 0) (r : NodeRequests) (f : Facts) (a : Option Asker) (e : Effects) → ((n : ℕ) → P n → IsId n) → IsKeyOrNone (view_key f) → AskerFrom P f.me a → AllTakenFrom P f.me r.taken → AllName P e.lines → AllRight P f.me e.sends → AllRight P f.me (with_requests r f a e).sends
dressed_right P r f a e ids k from taken names h = right_append P f.me e.sends _ h (owed_right P f.me (view_key f) a r.taken e.lines ids k from names taken)

-- ---- requests that a node passes on

-- the node that is named, where it is another
other_named : (P : ℕ → Type 0) (me a : ℕ) → P a → (a == me) ≡ false → OtherNode P me a
other_named P me a p e = record { node = p; differ = λ same. differ (num_eq a me (sym same)) e }

pub passing_name : (P : ℕ → Type 0) (r : PassedOn) (f : Facts) (clock : ℕ) (d : List ℕ) (w : Want) → Aware P f → AllName P (passing r f clock d w).lines
passing_name P r f clock d w h = go (request_refusal f (list_at f (partition_of d)) d) (refusal_cause P f d h)
  where
    to_other : (a : ℕ) → P a → (b : Bool) → (a == f.me) ≡ b → AllName P (if b then due_request f clock d w else passed_on r f d w a).lines
    to_other a p true e = request_name P f clock d w h
    to_other a p false e = ((h.me, other_named P f.me a p e), tt)

    go : (o : Option Refusal) → CauseIf P o → AllName P (passing_if r f clock d w o).lines
    go None c = request_name P f clock d w h
    go (Some refusal.Down) c = request_name P f clock d w h
    go (Some refusal.NoView) c = request_name P f clock d w h
    go (Some (refusal.Exchanging m)) c = request_name P f clock d w h
    go (Some (refusal.NotMaster a)) c = to_other a c (a == f.me) refl
    go (Some (refusal.Busy x)) c = request_name P f clock d w h

pub passing_right : (P : ℕ → Type 0) (t : Traced) (r : PassedOn) (f : Facts) (clock : ℕ) (d : List ℕ) (w : Want) → Knows P t f → AllRight P f.me (passing r f clock d w).sends
passing_right P t r f clock d w h = go (request_refusal f (list_at f (partition_of d)) d) (refusal_cause P f d h.aware)
  where
    to_other : (a : ℕ) → P a → (b : Bool) → (a == f.me) ≡ b → AllRight P f.me (if b then due_request f clock d w else passed_on r f d w a).sends
    to_other a p true e = request_right P t f clock d w h
    to_other a p false e = (one_right P f.me a _ refl (other_named P f.me a p e), tt)

    go : (o : Option Refusal) → CauseIf P o → AllRight P f.me (passing_if r f clock d w o).sends
    go None c = request_right P t f clock d w h
    go (Some refusal.Down) c = request_right P t f clock d w h
    go (Some refusal.NoView) c = request_right P t f clock d w h
    go (Some (refusal.Exchanging m)) c = request_right P t f clock d w h
    go (Some (refusal.NotMaster a)) c = to_other a c (a == f.me) refl
    go (Some (refusal.Busy x)) c = request_right P t f clock d w h

pub passing_again_name : (P : ℕ → Type 0) (r : PassedOn) (f : Facts) → P f.me → AllName P (passing_again r f).lines
passing_again_name P r f one = go f.up
  where
    go : (b : Bool) → AllName P (if b then sends_only (map (λ (p : ℕ × Passed). (p.1.to, proxy_of (view_key f) p.0 p.1)) r.waiting) else lines_only (line.Down f.me ∷ [])).lines
    go true = tt
    go false = (one, tt)

pub passing_again_right : (P : ℕ → Type 0) (r : PassedOn) (f : Facts) → AllWaitFor P f.me r.waiting → AllRight P f.me (passing_again r f).sends
passing_again_right P r f h = go f.up
  where
    each : (ps : ByNumber Passed) → AllWaitFor P f.me ps → AllRight P f.me (map (λ (p : ℕ × Passed). (p.1.to, proxy_of (view_key f) p.0 p.1)) ps)
    each [] h = tt
    each (p ∷ ps) h = (one_right P f.me p.1.to _ refl h.0, each ps h.1)

    go : (b : Bool) → AllRight P f.me (if b then sends_only (map (λ (p : ℕ × Passed). (p.1.to, proxy_of (view_key f) p.0 p.1)) r.waiting) else lines_only (line.Down f.me ∷ [])).sends
    go true = each r.waiting h
    go false = tt

-- ---- messages that reach a node

abbrev OutcomeIf : (ℕ → Type 0) → Option Outcome → Type 0
OutcomeIf P None = Unit {0}
OutcomeIf P (Some o) = OutcomeNames P o

outcome_named : (P : ℕ → Type 0) (me : ℕ) (xs : List Taken) (a : Asker) → AllTakenFrom P me xs → OutcomeIf P (outcome_for xs a)
outcome_named P me [] a h = tt
outcome_named P me (x ∷ xs) a h = go (same_asker x.asker a) (outcome_named P me xs a h.1)
  where
    go : (b : Bool) → OutcomeIf P (outcome_for xs a) → OutcomeIf P (option_map (λ (y : Taken). y.outcome) (cond b (Some x) (find (λ (y : Taken). same_asker y.asker a) xs)))
    go true rest = h.0.1
    go false rest = rest

taking_name : (P : ℕ → Type 0) (f : Facts) (clock : ℕ) (a : Asker) (d : List ℕ) (w : Want) (o : Option Outcome) → Aware P f → AllName P (taking_if f clock a d w o).lines
taking_name P f clock a d w None h = request_name P f clock d w h
taking_name P f clock a d w (Some (outcome.Open x)) h = tt
taking_name P f clock a d w (Some (outcome.Kept b)) h = tt

proxy_reply_name : (P : ℕ → Type 0) (r : PassedOn) (f : Facts) (from : ℕ) (key : ClusterKey) (x : ℕ) (b : ReplyBody) → P f.me → ReplyNames P b → AllName P (on_proxy_reply r f from key x b).lines
proxy_reply_name P r f from key x b one names = go (in_view f key)
  where
    step : (s : ReplyStep) → AllName P (proxied_if f x b s).lines
    step replied.Taken = ((one, names), tt)
    step replied.Spent = (inr one, tt)

    go : (c : Bool) → AllName P (if c then proxied_if f x b (reply_step (waits_for from (item_under r.waiting x))) else stale f).lines
    go true = step (reply_step (waits_for from (item_under r.waiting x)))
    go false = (inr one, tt)

pub message_at_name : (P : ℕ → Type 0) (n : ℕ) (r : NodeRequests) (f : Facts) (clock from : ℕ) (m : Message) → Aware P f → Commits P m → Tells P m → AllName P (due_at_node_of n r f clock from m).lines
message_at_name P n r f clock from (message.Proxy key x d w) h i tells = go (in_view f key)
  where
    go : (b : Bool) → AllName P (if b then taking r.taken f clock (record { from = from; number = x }) d w else stale f).lines
    go true = taking_name P f clock (record { from = from; number = x }) d w (outcome_for r.taken (record { from = from; number = x })) h
    go false = (inr h.me, tt)
message_at_name P n r f clock from (message.ProxyReply key x b) h i tells = proxy_reply_name P r.passed f from key x b h.me tells
message_at_name P n r f clock from (message.Call q d w) h i tells = taking_name P f clock (record { from = client; number = q }) d w (outcome_for r.taken (record { from = client; number = q })) h
message_at_name P n r f clock from (message.ScanAsk s p after) h i tells = tt
message_at_name P n r f clock from (message.Heartbeat view promised hears role) h i tells = message_name P n f clock from (message.Heartbeat view promised hears role) h i
message_at_name P n r f clock from (message.Propose key ms) h i tells = message_name P n f clock from (message.Propose key ms) h i
message_at_name P n r f clock from (message.Accept key) h i tells = message_name P n f clock from (message.Accept key) h i
message_at_name P n r f clock from (message.Refuse key promised) h i tells = message_name P n f clock from (message.Refuse key promised) h i
message_at_name P n r f clock from (message.Commit key ms) h i tells = message_name P n f clock from (message.Commit key ms) h i
message_at_name P n r f clock from (message.State key wants row) h i tells = message_name P n f clock from (message.State key wants row) h i
message_at_name P n r f clock from (message.Batch b) h i tells = message_name P n f clock from (message.Batch b) h i
message_at_name P n r f clock from (message.BatchAck key number) h i tells = message_name P n f clock from (message.BatchAck key number) h i
message_at_name P n r f clock from (message.Progress key wants done handed settled) h i tells = message_name P n f clock from (message.Progress key wants done handed settled) h i
message_at_name P n r f clock from (message.Repl key t nth d v) h i tells = message_name P n f clock from (message.Repl key t nth d v) h i
message_at_name P n r f clock from (message.ReplAck key t) h i tells = message_name P n f clock from (message.ReplAck key t) h i
message_at_name P n r f clock from (message.Ask key t d) h i tells = message_name P n f clock from (message.Ask key t d) h i
message_at_name P n r f clock from (message.Answer key t v) h i tells = message_name P n f clock from (message.Answer key t v) h i
message_at_name P n r f clock from message.MapAsk h i tells = message_name P n f clock from message.MapAsk h i
message_at_name P n r f clock from _ h i tells = (inr h.me, tt)

-- ---- where its messages go

-- the refusal of a scan, if there is one, names such nodes
abbrev ScanCauseIf : (ℕ → Type 0) → Option ScanRefusal → Type 0
ScanCauseIf P None = Unit {0}
ScanCauseIf P (Some cause) = ScanCauseNames P cause

scan_cause : (P : ℕ → Type 0) (f : Facts) (p : ℕ) → Aware P f → ScanCauseIf P (scan_refusal f p)
scan_cause P f p h = go (map_refusal f) refl (map_cause P f h)
  where
    open_one : (o : Option Transaction) → ScanCauseIf P (open_refusal o)
    open_one None = tt
    open_one (Some t) = tt

    settled_one : (b : Bool) → ScanCauseIf P (settled_refusal f p b)
    settled_one true = open_one (find (λ (t : Transaction). is_of p t.digest) f.transactions.running)
    settled_one false = tt

    acting_one : (b : Bool) → map_refusal f ≡ None → ScanCauseIf P (acting_scan_refusal f p b)
    acting_one true e = settled_one (knows_settled f p)
    acting_one false e = named_in P f (list_at f p) p f.me (in_list P f p h e) (each_listed P (members_of_view f) p h.members)

    go : (o : Option Refusal) → map_refusal f ≡ o → CauseIf P o → ScanCauseIf P (scan_refusal_after f p o)
    go None e c = acting_one (acts f (list_at f p) p) e
    go (Some refusal.Down) e c = tt
    go (Some refusal.NoView) e c = tt
    go (Some (refusal.Exchanging m)) e c = c
    go (Some (refusal.NotMaster a)) e c = c
    go (Some (refusal.Busy t)) e c = tt

scan_ask_right : (P : ℕ → Type 0) (f : Facts) (s p : ℕ) (after : Option (List ℕ)) → ((n : ℕ) → P n → IsId n) → Aware P f → (f.me ≡ client → ⊥) → AllRight P f.me (on_scan_ask f s p after).sends
scan_ask_right P f s p after ids h apart = go (scan_refusal f p) (scan_cause P f p h)
  where
    go : (o : Option ScanRefusal) → ScanCauseIf P o → AllRight P f.me (sends_only ((client, scan_answer f s p after o) ∷ [])).sends
    go None c = (record { receiver = inl refl; differ = apart; tells = others_tell P (message.ScanPage (scan_page f s p after (page_of f p after page_limit))) refl }, tt)
    go (Some cause) c = (record { receiver = inl refl; differ = apart; tells = scan_no_tells P ids s cause c }, tt)

-- the kinds that the client sends
abbrev pub is_asking : Message → Bool
is_asking message.MapAsk = true
is_asking (message.Call q d w) = true
is_asking (message.ScanAsk s p after) = true
is_asking _ = false

-- what is known as a message comes to a node that has requests of others
pub record ComesTo (P : ℕ → Type 0) (t : Traced) (f : Facts) (r : NodeRequests) (from : ℕ) (m : Message) : Type 0 where
  pub knows : Knows P t f
  -- of the kinds that the client doesn't send the sender is another such node
  pub from_other : is_asking m ≡ false → OtherNode P f.me from
  pub sound : Sound t
  pub keys : NodeKeys t f.me f
  pub client : f.me ≡ client → ⊥
  pub taken : AllTakenFrom P f.me r.taken
  pub ids : (n : ℕ) → P n → IsId n
  pub key : IsKeyOrNone (view_key f)

-- a message of another kind than the client's
as_before : {P : ℕ → Type 0} {t : Traced} {f : Facts} {r : NodeRequests} {from : ℕ} {m : Message} → ComesTo P t f r from m → is_asking m ≡ false → Comes P t f from m
as_before {P} {t} {f} {r} {from} {m} c e = record { knows = c.knows; from_other = λ i. c.from_other e; sound = c.sound; keys = c.keys; client = c.client }

taking_right : {P : ℕ → Type 0} {t : Traced} {f : Facts} {r : NodeRequests} {from : ℕ} {m : Message} (clock : ℕ) (a : Asker) (d : List ℕ) (w : Want) (o : Option Outcome) → ComesTo P t f r from m → OtherEnd P f.me a.from → OutcomeIf P o → AllRight P f.me (taking_if f clock a d w o).sends
taking_right {P} {t} {f} {r} {from} {m} clock a d w None c e n = request_right P t f clock d w c.knows
taking_right {P} {t} {f} {r} {from} {m} clock a d w (Some (outcome.Open x)) c e n = tt
taking_right {P} {t} {f} {r} {from} {m} clock a d w (Some (outcome.Kept b)) c e n = (reply_right P f.me (view_key f) a b c.ids c.key e n, tt)

pub message_at_right : (P : ℕ → Type 0) (n : ℕ) (t : Traced) (r : NodeRequests) (f : Facts) (clock from : ℕ) (m : Message) → ComesTo P t f r from m → AllRight P f.me (due_at_node_of n r f clock from m).sends
message_at_right P n t r f clock from (message.Proxy key x d w) c = go (in_view f key)
  where
    a : Asker
    a = record { from = from; number = x }

    go : (b : Bool) → AllRight P f.me (if b then taking r.taken f clock (record { from = from; number = x }) d w else stale f).sends
    go true = taking_right clock a d w (outcome_for r.taken a) c (record { end = inr (c.from_other refl).node; differ = (c.from_other refl).differ }) (outcome_named P f.me r.taken a c.taken)
    go false = tt
message_at_right P n t r f clock from (message.ProxyReply key x b) c = go (in_view f key)
  where
    step : (s : ReplyStep) → AllRight P f.me (proxied_if f x b s).sends
    step replied.Taken = tt
    step replied.Spent = tt

    go : (q : Bool) → AllRight P f.me (if q then proxied_if f x b (reply_step (waits_for from (item_under r.passed.waiting x))) else stale f).sends
    go true = step (reply_step (waits_for from (item_under r.passed.waiting x)))
    go false = tt
message_at_right P n t r f clock from (message.Call q d w) c =
    taking_right clock (record { from = client; number = q }) d w (outcome_for r.taken (record { from = client; number = q })) c (record { end = inl refl; differ = c.client }) (outcome_named P f.me r.taken (record { from = client; number = q }) c.taken)
message_at_right P n t r f clock from (message.ScanAsk s p after) c = scan_ask_right P f s p after c.ids c.knows.aware c.client
message_at_right P n t r f clock from (message.Heartbeat view promised hears role) c = message_right P n t f clock from (message.Heartbeat view promised hears role) (as_before c refl)
message_at_right P n t r f clock from (message.Propose key ms) c = message_right P n t f clock from (message.Propose key ms) (as_before c refl)
message_at_right P n t r f clock from (message.Accept key) c = message_right P n t f clock from (message.Accept key) (as_before c refl)
message_at_right P n t r f clock from (message.Refuse key promised) c = message_right P n t f clock from (message.Refuse key promised) (as_before c refl)
message_at_right P n t r f clock from (message.Commit key ms) c = message_right P n t f clock from (message.Commit key ms) (as_before c refl)
message_at_right P n t r f clock from (message.State key wants row) c = message_right P n t f clock from (message.State key wants row) (as_before c refl)
message_at_right P n t r f clock from (message.Batch b) c = message_right P n t f clock from (message.Batch b) (as_before c refl)
message_at_right P n t r f clock from (message.BatchAck key number) c = message_right P n t f clock from (message.BatchAck key number) (as_before c refl)
message_at_right P n t r f clock from (message.Progress key wants done handed settled) c = message_right P n t f clock from (message.Progress key wants done handed settled) (as_before c refl)
message_at_right P n t r f clock from (message.Repl key u nth d v) c = message_right P n t f clock from (message.Repl key u nth d v) (as_before c refl)
message_at_right P n t r f clock from (message.ReplAck key u) c = message_right P n t f clock from (message.ReplAck key u) (as_before c refl)
message_at_right P n t r f clock from (message.Ask key u d) c = message_right P n t f clock from (message.Ask key u d) (as_before c refl)
message_at_right P n t r f clock from (message.Answer key u v) c = message_right P n t f clock from (message.Answer key u v) (as_before c refl)
message_at_right P n t r f clock from message.MapAsk c = message_right P n t f clock from message.MapAsk (record { knows = c.knows; from_other = λ e. differ refl e; sound = c.sound; keys = c.keys; client = c.client })
message_at_right P n t r f clock from _ c = tt

-- ---- who asks at its lines

asks_append : (P : ℕ → Type 0) (a : Option Asker) (ls more : List Line) → LinesAsk P a ls → LinesAsk P a more → LinesAsk P a (ls ++ more)
asks_append P a [] more h i = i
asks_append P a (l ∷ ls) more h i = (h.0, asks_append P a ls more h.1 i)

sent_ask : (P : ℕ → Type 0) (a : Option Asker) (n before flying : ℕ) (ms : List (ℕ × Message)) → LinesAsk P a (sent_lines n before flying ms)
sent_ask P a n before flying [] = tt
sent_ask P a n before flying (m ∷ ms) = (tt, go (has_place flying) (λ f. sent_ask P a n (before + 1) f ms))
  where
    go : (b : Bool) → ((f : ℕ) → LinesAsk P a (sent_lines n (before + 1) f ms)) → LinesAsk P a ((if b then [] else line.Full (before + 1) ∷ []) ++ sent_lines n (before + 1) (if b then flying + 1 else flying) ms)
    go true rest = rest (flying + 1)
    go false rest = (tt, rest flying)

up_ask : (P : ℕ → Type 0) (a : Option Asker) (me : ℕ) (key : ClusterKey) (ps : ByNumber Passed) (ls : List Line) → LinesAsk P a ls → LinesAsk P a (map (given_up me key) ps ++ ls)
up_ask P a me key [] ls h = h
up_ask P a me key (p ∷ ps) ls h = (tt, up_ask P a me key ps ls h)

parted_ask : (P : ℕ → Type 0) (a : Option Asker) (me : ℕ) (key : ClusterKey) (ps : ByNumber Passed) (ls : List Line) → LinesAsk P a ls → LinesAsk P a (with_given_up ps key me ls)
parted_ask P a me key ps [] h = tt
parted_ask P a me key ps (l ∷ ls) h = go (leaves me l) (parted_ask P a me key ps ls h.1)
  where
    go : (b : Bool) → LinesAsk P a (with_given_up ps key me ls) → LinesAsk P a (cond b (map (given_up me key) ps ++ l ∷ ls) (l ∷ with_given_up ps key me ls))
    go true rest = up_ask P a me key ps (l ∷ ls) h
    go false rest = (h.0, rest)

done_ask : (P : ℕ → Type 0) (a : Option Asker) (n t : ℕ) (key : ClusterKey) (b : Bool) → LinesAsk P a (only_if (line.Done n key t) b)
done_ask P a n t key true = (tt, tt)
done_ask P a n t key false = tt

resolving_ask : (P : ℕ → Type 0) (a : Option Asker) (f : Facts) (clock : ℕ) (l : List ℕ) (x : Transaction) (w : Want) → LinesAsk P a (resolving_want f clock l x w).lines
resolving_ask P a f clock l x want.Get = (tt, tt)
resolving_ask P a f clock l x (want.Put bytes) = (tt, done_ask P a f.me x.number (view_key f) (is_nil (other_replicas f l)))
resolving_ask P a f clock l x want.Del = (tt, done_ask P a f.me x.number (view_key f) (is_nil (other_replicas f l)))

request_asks : (P : ℕ → Type 0) (a : Option Asker) (f : Facts) (clock : ℕ) (d : List ℕ) (w : Want) → AskerFrom P f.me a → LinesAsk P a (due_request f clock d w).lines
request_asks P a f clock d w h = go (request_refusal f (list_at f (partition_of d)) d)
  where
    new : Transaction
    new = opening_transaction f (list_at f (partition_of d)) (f.transactions.opened + 1) d w

    asks : (ns : List ℕ) → LinesAsk P a (asking f clock (list_at f (partition_of d)) new ns).lines
    asks [] = resolving_ask P a f clock (list_at f (partition_of d)) new w
    asks (n ∷ ns) = tt

    go : (o : Option Refusal) → LinesAsk P a (request_if f clock (list_at f (partition_of d)) d w o).lines
    go (Some cause) = (h, tt)
    go None = (h, asks new.awaiting)

taking_asks : (P : ℕ → Type 0) (a : Option Asker) (f : Facts) (clock : ℕ) (b : Asker) (d : List ℕ) (w : Want) (o : Option Outcome) → AskerFrom P f.me a → LinesAsk P a (taking_if f clock b d w o).lines
taking_asks P a f clock b d w None h = request_asks P a f clock d w h
taking_asks P a f clock b d w (Some (outcome.Open x)) h = tt
taking_asks P a f clock b d w (Some (outcome.Kept c)) h = tt

message_asks : (P : ℕ → Type 0) (n : ℕ) (r : NodeRequests) (f : Facts) (clock from : ℕ) (m : Message) → AskerFrom P f.me (asker_of from m) → LinesAsk P (asker_of from m) (due_at_node_of n r f clock from m).lines
message_asks P n r f clock from (message.Proxy key x d w) h = go (in_view f key)
  where
    a : Asker
    a = record { from = from; number = x }

    go : (b : Bool) → LinesAsk P (Some (record { from = from; number = x })) (if b then taking r.taken f clock (record { from = from; number = x }) d w else stale f).lines
    go true = taking_asks P (Some a) f clock a d w (outcome_for r.taken a) h
    go false = (tt, tt)
message_asks P n r f clock from (message.Call q d w) h = taking_asks P (Some (record { from = client; number = q })) f clock (record { from = client; number = q }) d w (outcome_for r.taken (record { from = client; number = q })) h
message_asks P n r f clock from m h = none_ask P (due_at_node_of n r f clock from m).lines

-- at a node's whole step of a message whoever asks is another end
pub receiver_asks : (P : ℕ → Type 0) (n : ℕ) (net : Network) (to : ℕ) (r : NodeRequests) (f : Facts) (clock from : ℕ) (m : Message) → AskerFrom P f.me (asker_of from m) → LinesAsk P (asker_of from m) (written net to (with_requests r f (asker_of from m) (due_at_node_of n r f clock from m)))
receiver_asks P n net to r f clock from m h =
    asks_append P (asker_of from m) (with_given_up r.passed.waiting (view_key f) f.me (due_at_node_of n r f clock from m).lines) _
    (parted_ask P (asker_of from m) f.me (view_key f) r.passed.waiting (due_at_node_of n r f clock from m).lines (message_asks P n r f clock from m h))
    (sent_ask P (asker_of from m) to _ _ _)

-- ---- messages that reach the client

records_name : (P : ℕ → Type 0) (s : ℕ) (rs : List Record) → AllName P (record_lines s rs)
records_name P s [] = tt
records_name P s (r ∷ rs) = (tt, records_name P s rs)

reply_name : (P : ℕ → Type 0) (from q : ℕ) (b : ReplyBody) (s : CallStep) → P from → ReplyNames P b → AllName P (reply_lines from q b s)
reply_name P from q b call.Closed one names = ((one, names), tt)
reply_name P from q b call.Refused one names = ((one, names), tt)
reply_name P from q b call.Spent one names = (inl refl, tt)

page_name : (P : ℕ → Type 0) (p from : ℕ) (page : ScanPage) (s : ScanStep) → P from → AllName P (page_lines p from page s)
page_name P p from page scan.Spent one = (inl refl, tt)
page_name P p from page scan.Again one = (tt, tt)
page_name P p from page (scan.More count) one = (tt, tt)
page_name P p from page (scan.Whole rs) one = (one, records_name P page.scan rs)

no_page_name : (P : ℕ → Type 0) (s : ℕ) (cause : ScanRefusal) (o : Option Scanning) → ScanCauseNames P cause → AllName P (unscanned_if s cause o)
no_page_name P s cause None names = (inl refl, tt)
no_page_name P s cause (Some x) names = (names, tt)

pub client_from_name : (P : ℕ → Type 0) (w : World) (from : ℕ) (m : Message) → (is_asking m ≡ false → P from) → Tells P m → AllName P (due_at_client_from w from m)
client_from_name P w from (message.MapTable t) one names = (tt, tt)
client_from_name P w from (message.Reply key q b) one names = reply_name P from q b (call_step (item_under w.requests.calls.waiting q) b) (one refl) names
client_from_name P w from (message.ScanPage page) one names = page_name P (partition_of_scan (item_under w.requests.scans.running page.scan)) from page (scan_step w.requests.scans from page) (one refl)
client_from_name P w from (message.ScanNo s cause) one names = no_page_name P s cause (item_under w.requests.scans.running s) names
client_from_name P w from _ one names = (inl refl, tt)

-- ---- requests and scans of the client

-- each message is of a kind that the client sends, and goes to such a node
abbrev pub AllAsked : (ℕ → Type 0) → List (ℕ × Message) → Type 0
AllAsked P [] = Unit {0}
AllAsked P (m ∷ ms) = (P m.0 × (is_asking m.1 ≡ true)) × AllAsked P ms

-- its lines name such nodes, and it sends what the client sends to such nodes
pub record AsksOf (P : ℕ → Type 0) (e : Effects) : Type 0 where
  pub names : AllName P e.lines
  pub sends : AllAsked P e.sends

pub calling_asks : (P : ℕ → Type 0) (cs : Calls) (d : List ℕ) (w : Want) (o : Option ℕ) → ((n : ℕ) → o ≡ Some n → P n) → AsksOf P (calling_named cs d w o)
calling_asks P cs d w None h = record { names = (tt, tt); sends = tt }
calling_asks P cs d w (Some n) h = go (is_full cs)
  where
    go : (b : Bool) → AsksOf P (if b then lines_only (line.CallFull ∷ []) else called cs d w n)
    go true = record { names = (tt, tt); sends = tt }
    go false = record { names = (h n refl, tt); sends = ((h n refl, refl), tt) }

pub calling_again_asks : (P : ℕ → Type 0) (tables : Tables) (q : ℕ) (o : Option Call) → ((c : Call) → o ≡ Some c → (n : ℕ) → node_for tables (partition_of c.digest) ≡ Some n → P n) → AsksOf P (calling_again_if tables q o)
calling_again_asks P tables q None h = record { names = (tt, tt); sends = tt }
calling_again_asks P tables q (Some c) h = go (node_for tables (partition_of c.digest)) (h c refl)
  where
    go : (o : Option ℕ) → ((n : ℕ) → o ≡ Some n → P n) → AsksOf P (called_again q c o)
    go None i = record { names = tt; sends = tt }
    go (Some n) i = record { names = (i n refl, tt); sends = ((i n refl, refl), tt) }

pub scanning_asks : (P : ℕ → Type 0) (ss : Scans) (p : ℕ) (o : Option ℕ) → ((n : ℕ) → o ≡ Some n → P n) → AsksOf P (scanning_named ss p o)
scanning_asks P ss p None h = record { names = (tt, tt); sends = tt }
scanning_asks P ss p (Some n) h = record { names = (h n refl, tt); sends = ((h n refl, refl), tt) }

pub scanning_on_asks : (P : ℕ → Type 0) (tables : Tables) (s : ℕ) (o : Option Scanning) → ((x : Scanning) → o ≡ Some x → (n : ℕ) → node_for tables x.partition ≡ Some n → P n) → AsksOf P (scanning_on_if tables s o)
scanning_on_asks P tables s None h = record { names = (tt, tt); sends = tt }
scanning_on_asks P tables s (Some x) h = go (node_for tables x.partition) (h x refl)
  where
    go : (o : Option ℕ) → ((n : ℕ) → o ≡ Some n → P n) → AsksOf P (asked_on s x o)
    go None i = record { names = tt; sends = tt }
    go (Some n) i = record { names = (i n refl, tt); sends = ((i n refl, refl), tt) }
