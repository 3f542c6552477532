-- For whom nodes take requests up, and to whom they pass them on: other nodes of which something holds, as that they are
-- declared, and the client. So late replies go right.
use Rattle.std.proofs.Common.{◌≡◌, ℕ, ◌==◌, Bool, true, false, cond, List, [], ◌∷◌, ◌++◌, map, not, Option, Some, None, refl, sym, subst, if◌then◌else◌}
use Rattle.std.specs.Prelude.{find, option_and_then, option_map}
use Rattle.conflict_order.specs.declared.version.Version.{Version}
use Rattle.cluster_types.specs.declared.cluster_key.ClusterKey.{ClusterKey}
use Rattle.cluster_types.specs.Endpoints.{client}
use Rattle.journal_lines.specs.declared.line.Line.{Line}
use Rattle.journal_lines.specs.declared.line.Line.TheVariants as line
use Rattle.journal_lines.specs.declared.refusal.Refusal.{Refusal}
use Rattle.journal_lines.specs.declared.refusal.Refusal.TheVariants as refusal
use Rattle.journal_readings.specs.Messages.{Arrival, arrived, arrived_cut}
use Rattle.wire_messages.specs.declared.message.Message.{Message}
use Rattle.wire_messages.specs.declared.message.Message.TheVariants as message
use Rattle.wire_messages.specs.declared.reply.ReplyBody.{ReplyBody}
use Rattle.wire_messages.specs.declared.reply.ReplyBody.TheVariants as reply
use Rattle.wire_messages.specs.Decoding.{message_of}
use Rattle.wire_messages.specs.Keys.{IsKeyOrNone}
use Rattle.wire_messages.specs.Nodes.{IsId}
use Rattle.request_rules.specs.declared.passed.Passed.{Passed}
use Rattle.request_rules.specs.declared.taken.Asker.{Asker}
use Rattle.request_rules.specs.declared.taken.Outcome.{Outcome}
use Rattle.request_rules.specs.declared.taken.Outcome.TheVariants as outcome
use Rattle.request_rules.specs.declared.taken.Taken.{Taken}
use Rattle.request_rules.specs.ByNumber.{ByNumber, without_number}
use Rattle.request_rules.specs.Replies.{found_body, refusal_body, reply_to}
use Rattle.request_rules.specs.Requests.{NodeRequests}
use Rattle.request_rules.specs.TakenUp.{bound_to, is_bound_to, keeping, keeping_refusal, note_taken, owed, owed_by_line, refusal_for, refusing_for, replied_if, reply_for, taking_up, taking_up_for}
use Rattle.cluster_rules.specs.Marks as marks
use Rattle.cluster_rules.specs.Marks.{Begins, Writes, came_to_client, came_to_node}
use Rattle.cluster_rules.specs.Network.{posting, posting_at}
use Rattle.cluster_rules.specs.World.{World, changed_at}
use Rattle.key_laws.specs.Ends.{IsEnd, OtherNode, CauseNames, ReplyNames, LineNames, AllName}
use Rattle.key_laws.proofs.Frames.{at_each}
use Rattle.key_laws.proofs.NamedSends.{SendsRight, AllRight, right_append}
use Rattle.key_laws.proofs.RequestWire.{proxy_reply_tells, reply_tells}

-- ---- whom a node keeps requests of

-- another end than the node
pub record OtherEnd (P : ℕ → Type 0) (me other : ℕ) : Type 0 where
  pub end : IsEnd P other
  pub differ : me ≡ other → ⊥

-- whoever asks, if anybody does, is another end
abbrev pub AskerFrom : (ℕ → Type 0) → ℕ → Option Asker → Type 0
AskerFrom P me None = Unit {0}
AskerFrom P me (Some a) = OtherEnd P me a.from

-- a reply that is kept names such nodes
abbrev pub OutcomeNames : (ℕ → Type 0) → Outcome → Type 0
OutcomeNames P (outcome.Open t) = Unit {0}
OutcomeNames P (outcome.Kept b) = ReplyNames P b

-- each request that was taken up is of another end, with a reply that names such nodes
abbrev pub AllTakenFrom : (ℕ → Type 0) → ℕ → List Taken → Type 0
AllTakenFrom P me [] = Unit {0}
AllTakenFrom P me (x ∷ xs) = (OtherEnd P me x.asker.from × OutcomeNames P x.outcome) × AllTakenFrom P me xs

-- each request that was passed on waits for another such node
abbrev pub AllWaitFor : (ℕ → Type 0) → ℕ → ByNumber Passed → Type 0
AllWaitFor P me [] = Unit {0}
AllWaitFor P me (x ∷ xs) = OtherNode P me x.1.to × AllWaitFor P me xs

pub record RequestsNamed (P : ℕ → Type 0) (me : ℕ) (r : NodeRequests) : Type 0 where
  pub taken : AllTakenFrom P me r.taken
  pub waiting : AllWaitFor P me r.passed.waiting

-- ---- what a line adds

up_from : (P : ℕ → Type 0) (me : ℕ) (xs : List Taken) (a : Asker) (o : Outcome) → OtherEnd P me a.from → OutcomeNames P o → AllTakenFrom P me xs → AllTakenFrom P me (taking_up xs a o)
up_from P me [] a o e n h = ((e, n), tt)
up_from P me (x ∷ xs) a o e n h = (h.0, up_from P me xs a o e n h.1)

kept_from : (P : ℕ → Type 0) (me : ℕ) (xs : List Taken) (t : ℕ) (b : ReplyBody) → ReplyNames P b → AllTakenFrom P me xs → AllTakenFrom P me (keeping xs t b)
kept_from P me [] t b n h = tt
kept_from P me (x ∷ xs) t b n h = (go (is_bound_to t x.outcome), kept_from P me xs t b n h.1)
  where
    go : (c : Bool) → OtherEnd P me (replied_if b x c).asker.from × OutcomeNames P (replied_if b x c).outcome
    go true = (h.0.0, n)
    go false = h.0

found_names : (P : ℕ → Type 0) (v : Option Version) → ReplyNames P (found_body v)
found_names P None = tt
found_names P (Some v) = tt

-- the reply that tells a refusal names what the refusal does
abbrev BodyNames : (ℕ → Type 0) → Option ReplyBody → Type 0
BodyNames P None = Unit {0}
BodyNames P (Some b) = ReplyNames P b

refusal_names : (P : ℕ → Type 0) (cause : Refusal) → CauseNames P cause → BodyNames P (refusal_body cause)
refusal_names P refusal.Down h = tt
refusal_names P refusal.NoView h = tt
refusal_names P (refusal.Exchanging m) h = h
refusal_names P (refusal.NotMaster a) h = h
refusal_names P (refusal.Busy t) h = tt

opened_from : (P : ℕ → Type 0) (me : ℕ) (a : Option Asker) (xs : List Taken) (t : ℕ) → AskerFrom P me a → AllTakenFrom P me xs → AllTakenFrom P me (taking_up_for xs a (outcome.Open t))
opened_from P me None xs t e h = h
opened_from P me (Some a) xs t e h = up_from P me xs a (outcome.Open t) e tt h

refused_from : (P : ℕ → Type 0) (me : ℕ) (a : Option Asker) (xs : List Taken) (cause : Refusal) → AskerFrom P me a → CauseNames P cause → AllTakenFrom P me xs → AllTakenFrom P me (refusing_for xs a cause)
refused_from P me None xs cause e n h = h
refused_from P me (Some a) xs cause e n h = go (refusal_body cause) (refusal_names P cause n)
  where
    by_end : (b : ReplyBody) → ReplyNames P b → (c : Bool) → AllTakenFrom P me (cond c xs (taking_up xs a (outcome.Kept b)))
    by_end b n true = h
    by_end b n false = up_from P me xs a (outcome.Kept b) e n h

    go : (o : Option ReplyBody) → BodyNames P o → AllTakenFrom P me (keeping_refusal xs a o)
    go None n = h
    go (Some b) n = by_end b n (a.from == client)

taken_from : (P : ℕ → Type 0) (me : ℕ) (a : Option Asker) (xs : List Taken) (l : Line) → AskerFrom P me a → LineNames P l → AllTakenFrom P me xs → AllTakenFrom P me (note_taken a xs l)
taken_from P me a xs (line.Opened n k t d action) e names h = opened_from P me a xs t e h
taken_from P me a xs (line.Refused n d cause) e names h = refused_from P me a xs cause e names.1 h
taken_from P me a xs (line.Value n k t d v) e names h = kept_from P me xs t (found_body v) (found_names P v) h
taken_from P me a xs (line.Done n k t) e names h = kept_from P me xs t reply.Done tt h
taken_from P me a xs (line.Enter n k ms) e names h = tt
taken_from P me a xs (line.Stop n) e names h = tt
taken_from P me a xs _ e names h = h

-- ---- late replies

pub reply_right : (P : ℕ → Type 0) (me : ℕ) (key : ClusterKey) (a : Asker) (b : ReplyBody) → ((n : ℕ) → P n → IsId n) → IsKeyOrNone key → OtherEnd P me a.from → ReplyNames P b → SendsRight P me a.from (reply_to key a b)
reply_right P me key a b ids k e n = go (a.from == client)
  where
    go : (c : Bool) → SendsRight P me a.from (if c then message.Reply key a.number b else message.ProxyReply key a.number b)
    go true = record { receiver = e.end; differ = e.differ; tells = reply_tells P ids key a.number b k n }
    go false = record { receiver = e.end; differ = e.differ; tells = proxy_reply_tells P ids key a.number b k n }

bound_from : (P : ℕ → Type 0) (me : ℕ) (xs : List Taken) (t : ℕ) → AllTakenFrom P me xs → AskerFrom P me (bound_to xs t)
bound_from P me [] t h = tt
bound_from P me (x ∷ xs) t h = go (is_bound_to t x.outcome) (bound_from P me xs t h.1)
  where
    go : (b : Bool) → AskerFrom P me (bound_to xs t) → AskerFrom P me (option_map (λ (y : Taken). y.asker) (cond b (Some x) (find (λ (y : Taken). is_bound_to t y.outcome) xs)))
    go true rest = h.0.0
    go false rest = rest

for_right : (P : ℕ → Type 0) (me : ℕ) (key : ClusterKey) (a : Option Asker) (b : ReplyBody) → ((n : ℕ) → P n → IsId n) → IsKeyOrNone key → AskerFrom P me a → ReplyNames P b → AllRight P me (reply_for key a b)
for_right P me key None b ids k e n = tt
for_right P me key (Some a) b ids k e n = (reply_right P me key a b ids k e n, tt)

told_right : (P : ℕ → Type 0) (me : ℕ) (key : ClusterKey) (a : Option Asker) (o : Option ReplyBody) → ((n : ℕ) → P n → IsId n) → IsKeyOrNone key → AskerFrom P me a → BodyNames P o → AllRight P me (refusal_for key a o)
told_right P me key a None ids k e n = tt
told_right P me key a (Some b) ids k e n = for_right P me key a b ids k e n

line_right : (P : ℕ → Type 0) (me : ℕ) (key : ClusterKey) (a : Option Asker) (xs : List Taken) (l : Line) → ((n : ℕ) → P n → IsId n) → IsKeyOrNone key → AskerFrom P me a → LineNames P l → AllTakenFrom P me xs → AllRight P me (owed_by_line key a xs l)
line_right P me key a xs (line.Value n k t d v) ids i e names h = for_right P me key (bound_to xs t) (found_body v) ids i (bound_from P me xs t h) (found_names P v)
line_right P me key a xs (line.Done n k t) ids i e names h = for_right P me key (bound_to xs t) reply.Done ids i (bound_from P me xs t h) tt
line_right P me key a xs (line.Refused n d cause) ids i e names h = told_right P me key a (refusal_body cause) ids i e (refusal_names P cause names.1)
line_right P me key a xs _ ids i e names h = tt

-- what lines owe goes right
pub owed_right : (P : ℕ → Type 0) (me : ℕ) (key : ClusterKey) (a : Option Asker) (xs : List Taken) (ls : List Line) → ((n : ℕ) → P n → IsId n) → IsKeyOrNone key → AskerFrom P me a → AllName P ls → AllTakenFrom P me xs → AllRight P me (owed key a xs ls)
owed_right P me key a xs [] ids k e names h = tt
owed_right P me key a xs (l ∷ ls) ids k e names h =
    right_append P me (owed_by_line key a xs l) (owed key a (note_taken a xs l) ls) (line_right P me key a xs l ids k e names.0 h)
    (owed_right P me key a (note_taken a xs l) ls ids k e names.1 (taken_from P me a xs l e names.0 h))

-- ---- what waits

without_waits : (P : ℕ → Type 0) (me : ℕ) (xs : ByNumber Passed) (x : ℕ) → AllWaitFor P me xs → AllWaitFor P me (without_number xs x)
without_waits P me [] x h = tt
without_waits P me (p ∷ xs) x h = go (p.0 == x) (without_waits P me xs x h.1)
  where
    go : (b : Bool) → AllWaitFor P me (without_number xs x) → AllWaitFor P me (cond (not b) (p ∷ without_number xs x) (without_number xs x))
    go true rest = rest
    go false rest = (h.0, rest)

one_waits : (P : ℕ → Type 0) (me : ℕ) (xs : ByNumber Passed) (p : ℕ × Passed) → OtherNode P me p.1.to → AllWaitFor P me xs → AllWaitFor P me (xs ++ p ∷ [])
one_waits P me [] p o h = (o, tt)
one_waits P me (x ∷ xs) p o h = (h.0, one_waits P me xs p o h.1)

-- ---- every mark

-- at a line at which a request is taken up, whoever asks is another end than the node
abbrev pub LineAsks : (ℕ → Type 0) → Option Asker → Line → Type 0
LineAsks P a (line.Opened n k t d action) = AskerFrom P n a
LineAsks P a (line.Refused n d cause) = AskerFrom P n a
LineAsks P a _ = Unit {0}

abbrev pub LinesAsk : (ℕ → Type 0) → Option Asker → List Line → Type 0
LinesAsk P a [] = Unit {0}
LinesAsk P a (l ∷ ls) = LineAsks P a l × LinesAsk P a ls

-- nobody asks
nobody_asks : (P : ℕ → Type 0) (l : Line) → LineAsks P None l
nobody_asks P (line.Opened n k t d action) = tt
nobody_asks P (line.Refused n d cause) = tt
nobody_asks P _ = tt

pub none_ask : (P : ℕ → Type 0) (ls : List Line) → LinesAsk P None ls
none_ask P [] = tt
none_ask P (l ∷ ls) = (nobody_asks P l, none_ask P ls)

-- the requests of each node
abbrev pub Asked : (ℕ → Type 0) → World → Type 0
Asked P w = (n : ℕ) → RequestsNamed P n (w.requests.at n)

-- the node's requests change
one_asked : (P : ℕ → Type 0) (at : ℕ → NodeRequests) (n : ℕ) (r : NodeRequests) → ((m : ℕ) → RequestsNamed P m (at m)) → RequestsNamed P n r → (m : ℕ) → RequestsNamed P m (changed_at at n r m)
one_asked P at n r h new = at_each (λ m x. RequestsNamed P m x) at n r h new

came_asked : (P : ℕ → Type 0) (w : World) (x : Option Arrival) → Asked P w → Asked P (marks.came w x)
came_asked P w None h = h
came_asked P w (Some x) h = go (x.to == client)
  where
    at_client : (m : Message) → Asked P (came_to_client w m)
    at_client (message.MapTable t) = h
    at_client _ = h

    go : (b : Bool) → Asked P (cond b (came_to_client w x.message) (came_to_node w x))
    go true = at_client x.message
    go false = h

sent_asked : (P : ℕ → Type 0) (w : World) (a b : ℕ) (o : Option Message) → Asked P w → Asked P (marks.sent_by w a b o)
sent_asked P w a b None h = h
sent_asked P w a b (Some m) h = h

pub line_asked : (P : ℕ → Type 0) (w : World) (l : Line) → LineAsks P w.asker l → LineNames P l → Asked P w → Asked P (marks.after w (Writes l))
line_asked P w (line.Opened n k t d a) asks names h = one_asked P w.requests.at n _ h (record { taken = taken_from P n w.asker (w.requests.at n).taken (line.Opened n k t d a) asks names (h n).taken; waiting = (h n).waiting })
line_asked P w (line.Refused n d cause) asks names h = one_asked P w.requests.at n _ h (record { taken = taken_from P n w.asker (w.requests.at n).taken (line.Refused n d cause) asks names (h n).taken; waiting = (h n).waiting })
line_asked P w (line.Value n k t d v) asks names h = one_asked P w.requests.at n _ h (record { taken = kept_from P n (w.requests.at n).taken t (found_body v) (found_names P v) (h n).taken; waiting = (h n).waiting })
line_asked P w (line.Done n k t) asks names h = one_asked P w.requests.at n _ h (record { taken = kept_from P n (w.requests.at n).taken t reply.Done tt (h n).taken; waiting = (h n).waiting })
line_asked P w (line.Enter n k ms) asks names h = one_asked P w.requests.at n _ h (record { taken = tt; waiting = tt })
line_asked P w (line.Stop n) asks names h = one_asked P w.requests.at n _ h (record { taken = tt; waiting = tt })
line_asked P w (line.Proxy n k x d a to) asks names h = one_asked P w.requests.at n _ h (record { taken = (h n).taken; waiting = one_waits P n (w.requests.at n).passed.waiting _ names.1 (h n).waiting })
line_asked P w (line.Proxied n k x b) asks names h = one_asked P w.requests.at n _ h (record { taken = (h n).taken; waiting = without_waits P n (w.requests.at n).passed.waiting x (h n).waiting })
line_asked P w (line.Unproxied n k x) asks names h = one_asked P w.requests.at n _ h (record { taken = (h n).taken; waiting = without_waits P n (w.requests.at n).passed.waiting x (h n).waiting })
line_asked P w (line.Deliver i a b) asks names h = came_asked P w (option_and_then (arrived b) (posting_at w.network i)) h
line_asked P w (line.Repeat i a b) asks names h = came_asked P w (option_and_then (arrived b) (posting_at w.network i)) h
line_asked P w (line.Cut i a b size) asks names h = came_asked P w (option_and_then (arrived_cut b size) (posting_at w.network i)) h
line_asked P w (line.Sent i a b bytes) asks names h = sent_asked P (record w { network = posting w.network i (record { from = a; to = b; bytes = bytes }) }) a b (message_of bytes) h
line_asked P w _ asks names h = h

came_asker : (w : World) (x : Option Arrival) → (marks.came w x).asker ≡ w.asker
came_asker w None = refl
came_asker w (Some x) = go (x.to == client)
  where
    at_client : (m : Message) → (came_to_client w m).asker ≡ w.asker
    at_client (message.MapTable t) = refl
    at_client _ = refl

    go : (b : Bool) → (cond b (came_to_client w x.message) (came_to_node w x)).asker ≡ w.asker
    go true = at_client x.message
    go false = refl

-- a line leaves in hand whoever asks
same_asker_in_hand : (w : World) (l : Line) → (marks.after w (Writes l)).asker ≡ w.asker
same_asker_in_hand w (line.Deliver i a b) = came_asker w (option_and_then (arrived b) (posting_at w.network i))
same_asker_in_hand w (line.Repeat i a b) = came_asker w (option_and_then (arrived b) (posting_at w.network i))
same_asker_in_hand w (line.Cut i a b size) = came_asker w (option_and_then (arrived_cut b size) (posting_at w.network i))
same_asker_in_hand w (line.Sent i a b bytes) = go (message_of bytes)
  where
    go : (o : Option Message) → (marks.sent_by (record w { network = posting w.network i (record { from = a; to = b; bytes = bytes }) }) a b o).asker ≡ w.asker
    go None = refl
    go (Some m) = refl
same_asker_in_hand w _ = refl

-- the lines of a step leave the requests named
pub lines_asked : (P : ℕ → Type 0) (w : World) (ls : List Line) → LinesAsk P w.asker ls → AllName P ls → Asked P w → Asked P (marks.after_all w (map Writes ls))
lines_asked P w [] asks names h = h
lines_asked P w (l ∷ ls) asks names h =
    lines_asked P (marks.after w (Writes l)) ls (subst (λ (a : Option Asker). LinesAsk P a ls) (sym (same_asker_in_hand w l)) asks.1) names.1 (line_asked P w l asks.0 names.0 h)
