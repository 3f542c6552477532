-- No asker stands twice among what a node took up, and no transaction is awaited twice, where only new requests are taken up. For
-- the claims of what is taken up once.
use Rattle.std.proofs.Common.{◌≡◌, ◌+◌, ℕ, zero, suc, ◌==◌, Bool, true, false, cond, List, [], ◌∷◌, ◌++◌, All, AllPairs, Option, Some, None, refl, sym, ap, ◌∙◌, arith}
use Rattle.std.specs.Prelude.{find, option_and_then, option_map}
use Rattle.conflict_order.specs.declared.want.Action.{Action}
use Rattle.cluster_types.specs.declared.cluster_key.ClusterKey.{ClusterKey}
use Rattle.cluster_types.specs.Endpoints.{client}
use Rattle.journal_lines.specs.declared.line.Line.{Line}
use Rattle.journal_lines.specs.declared.line.Line.TheVariants as line
use Rattle.journal_lines.specs.declared.refusal.Refusal.{Refusal}
use Rattle.wire_messages.specs.declared.reply.ReplyBody.{ReplyBody}
use Rattle.wire_messages.specs.declared.reply.ReplyBody.TheVariants as reply
use Rattle.conflict_order.specs.declared.want.Want.{Want}
use Rattle.conflict_order.specs.declared.want.Want.TheVariants as want
use Rattle.cluster_types.specs.Partitions.{partition_of}
use Rattle.journal_readings.specs.Messages.{Arrival, arrived, arrived_cut}
use Rattle.wire_messages.specs.declared.message.Message.{Message}
use Rattle.wire_messages.specs.declared.message.Message.TheVariants as message
use Rattle.wire_messages.specs.Decoding.{message_of}
use Rattle.node_rules.specs.Copies.{is_nil}
use Rattle.node_rules.specs.Facts.{Facts, view_key, list_at}
use Rattle.node_rules.specs.Notes.{opening_transaction}
use Rattle.node_rules.specs.Requests.{asking, due_request, request_if, request_refusal}
use Rattle.node_rules.specs.Resolving.{resolving_want}
use Rattle.node_rules.specs.Standing.{other_replicas}
use Rattle.node_rules.specs.Tables.{only_if}
use Rattle.node_rules.specs.Transactions.{Transaction}
use Rattle.request_rules.specs.declared.taken.Asker.{Asker}
use Rattle.request_rules.specs.declared.taken.Outcome.TheVariants as outcome
use Rattle.request_rules.specs.declared.taken.Taken.{Taken}
use Rattle.request_rules.specs.Replies.{found_body, refusal_body}
use Rattle.request_rules.specs.TakenUp.{AreTakenOnce, bound_to, is_bound_to, keeping, keeping_refusal, note_taken, outcome_for, replied_if, same_asker, taking_up}
use Rattle.request_rules.specs.Requests.{NodeRequests}
use Rattle.cluster_rules.specs.Marks.{Writes, after, came, came_to_client, came_to_node, sent_by}
use Rattle.cluster_rules.specs.Network.{posting, posting_at}
use Rattle.cluster_rules.specs.World.{World, changed_at}
use Rattle.key_laws.proofs.Frames.{at_each}
use Rattle.cluster_laws.proofs.At.{differ, no_some, number_same}

-- ---- each with each

-- what holds of each with each later one
abbrev pub EachFirst : {X : Type 0} → (X → Type 0) → List X → Type 0
EachFirst P [] = Unit {0}
EachFirst P (x ∷ xs) = P x × EachFirst P xs

abbrev EachOther : {X : Type 0} → (X → X → Type 0) → List X → Type 0
EachOther R [] = Unit {0}
EachOther R (x ∷ xs) = EachFirst (R x) xs × EachOther R xs

all_of : {X : Type 0} (P : X → Type 0) (xs : List X) → EachFirst P xs → All P xs
all_of P [] h k d lt = absurd (omega (arith, lt))
all_of P (x ∷ xs) h zero d lt = h.0
all_of P (x ∷ xs) h (suc k) d lt = all_of P xs h.1 k d (omega (arith, lt))

pairs_of : {X : Type 0} (R : X → X → Type 0) (xs : List X) → EachOther R xs → AllPairs R xs
pairs_of R [] h i j d lt within = absurd (omega (arith, within))
pairs_of R (x ∷ xs) h i zero d lt within = absurd (omega (arith, lt))
pairs_of R (x ∷ xs) h zero (suc j) d lt within = all_of (R x) xs h.0 j d (omega (arith, within))
pairs_of R (x ∷ xs) h (suc i) (suc j) d lt within = pairs_of R xs h.1 i j d (omega (arith, lt)) (omega (arith, within))

first_last : {X : Type 0} (P : X → Type 0) (xs : List X) (z : X) → EachFirst P xs → P z → EachFirst P (xs ++ z ∷ [])
first_last P [] z h p = (p, tt)
first_last P (x ∷ xs) z h p = (h.0, first_last P xs z h.1 p)

add_last : {X : Type 0} (R : X → X → Type 0) (xs : List X) (z : X) → EachOther R xs → EachFirst (λ y. R y z) xs → EachOther R (xs ++ z ∷ [])
add_last R [] z h p = (tt, tt)
add_last R (x ∷ xs) z h p = (first_last (R x) xs z h.0 p.0, add_last R xs z h.1 p.1)

-- ---- what was taken up

abbrev OtherAskers : Taken → Taken → Type 0
OtherAskers x y = same_asker x.asker y.asker ≡ false

abbrev OtherTransactions : Taken → Taken → Type 0
OtherTransactions x y = (t : ℕ) → is_bound_to t x.outcome ≡ true → is_bound_to t y.outcome ≡ false

pub record Once (xs : List Taken) : Type 0 where
  askers : EachOther OtherAskers xs
  transactions : EachOther OtherTransactions xs

once_is : (xs : List Taken) → Once xs → AreTakenOnce xs
once_is xs h = record { askers = pairs_of OtherAskers xs h.askers; transactions = pairs_of OtherTransactions xs h.transactions }

not_asked : (xs : List Taken) (a : Asker) → outcome_for xs a ≡ None → EachFirst (λ (y : Taken). same_asker y.asker a ≡ false) xs
not_asked [] a e = tt
not_asked (x ∷ xs) a e = go (same_asker x.asker a) refl e (not_asked xs a)
  where
    go : (b : Bool) → same_asker x.asker a ≡ b → option_map (λ (y : Taken). y.outcome) (cond b (Some x) (find (λ (y : Taken). same_asker y.asker a) xs)) ≡ None → (outcome_for xs a ≡ None → EachFirst (λ (y : Taken). same_asker y.asker a ≡ false) xs) → EachFirst (λ (y : Taken). same_asker y.asker a ≡ false) (x ∷ xs)
    go true i q rest = no_some (sym q)
    go false i q rest = (i, rest q)

not_bound : (xs : List Taken) (t : ℕ) → bound_to xs t ≡ None → EachFirst (λ (y : Taken). is_bound_to t y.outcome ≡ false) xs
not_bound [] t e = tt
not_bound (x ∷ xs) t e = go (is_bound_to t x.outcome) refl e (not_bound xs t)
  where
    go : (b : Bool) → is_bound_to t x.outcome ≡ b → option_map (λ (y : Taken). y.asker) (cond b (Some x) (find (λ (y : Taken). is_bound_to t y.outcome) xs)) ≡ None → (bound_to xs t ≡ None → EachFirst (λ (y : Taken). is_bound_to t y.outcome ≡ false) xs) → EachFirst (λ (y : Taken). is_bound_to t y.outcome ≡ false) (x ∷ xs)
    go true i q rest = no_some (sym q)
    go false i q rest = (i, rest q)

-- one that isn't awaited before the transaction of that number is not it
apart : (xs : List Taken) (t : ℕ) (a : Asker) → EachFirst (λ (y : Taken). is_bound_to t y.outcome ≡ false) xs → EachFirst (λ (y : Taken). OtherTransactions y (record { asker = a; outcome = outcome.Open t })) xs
apart [] t a h = tt
apart (x ∷ xs) t a h = ((λ u e. go u e (t == u) refl), apart xs t a h.1)
  where
    go : (u : ℕ) → is_bound_to u x.outcome ≡ true → (b : Bool) → (t == u) ≡ b → b ≡ false
    go u e false i = refl
    go u e true i = differ (ap (λ (j : ℕ). is_bound_to j x.outcome) (number_same t u i) ∙ e) h.0

never : (xs : List Taken) (a : Asker) (b : ReplyBody) → EachFirst (λ (y : Taken). OtherTransactions y (record { asker = a; outcome = outcome.Kept b })) xs
never [] a b = tt
never (x ∷ xs) a b = ((λ u e. refl), never xs a b)

up_once : (xs : List Taken) (a : Asker) (t : ℕ) → outcome_for xs a ≡ None → bound_to xs t ≡ None → Once xs → Once (taking_up xs a (outcome.Open t))
up_once xs a t new free h = record {
  askers = add_last OtherAskers xs _ h.askers (not_asked xs a new);
  transactions = add_last OtherTransactions xs _ h.transactions (apart xs t a (not_bound xs t free));
}

kept_once : (xs : List Taken) (a : Asker) (b : ReplyBody) → outcome_for xs a ≡ None → Once xs → Once (taking_up xs a (outcome.Kept b))
kept_once xs a b new h = record {
  askers = add_last OtherAskers xs _ h.askers (not_asked xs a new);
  transactions = add_last OtherTransactions xs _ h.transactions (never xs a b);
}

-- ---- a transaction ends

same_from : (b : ReplyBody) (x : Taken) (c : Bool) → (replied_if b x c).asker ≡ x.asker
same_from b x true = refl
same_from b x false = refl

was_bound : (b : ReplyBody) (x : Taken) (c : Bool) (u : ℕ) → is_bound_to u (replied_if b x c).outcome ≡ true → is_bound_to u x.outcome ≡ true
was_bound b x true u e = differ e refl
was_bound b x false u e = e

stays_unbound : (b : ReplyBody) (x : Taken) (c : Bool) (u : ℕ) → is_bound_to u x.outcome ≡ false → is_bound_to u (replied_if b x c).outcome ≡ false
stays_unbound b x true u e = refl
stays_unbound b x false u e = e

ended_askers : (xs : List Taken) (t : ℕ) (b : ReplyBody) (x : Taken) (c : Bool) → EachFirst (OtherAskers x) xs → EachFirst (OtherAskers (replied_if b x c)) (keeping xs t b)
ended_askers [] t b x c h = tt
ended_askers (y ∷ xs) t b x c h = (ap (λ (a : Asker). same_asker a (replied_if b y (is_bound_to t y.outcome)).asker) (same_from b x c) ∙ ap (λ (a : Asker). same_asker x.asker a) (same_from b y (is_bound_to t y.outcome)) ∙ h.0, ended_askers xs t b x c h.1)

ended_transactions : (xs : List Taken) (t : ℕ) (b : ReplyBody) (x : Taken) (c : Bool) → EachFirst (OtherTransactions x) xs → EachFirst (OtherTransactions (replied_if b x c)) (keeping xs t b)
ended_transactions [] t b x c h = tt
ended_transactions (y ∷ xs) t b x c h = ((λ u e. stays_unbound b y (is_bound_to t y.outcome) u (h.0 u (was_bound b x c u e))), ended_transactions xs t b x c h.1)

ended_once : (xs : List Taken) (t : ℕ) (b : ReplyBody) → Once xs → Once (keeping xs t b)
ended_once xs t b h = record { askers = askers xs h.askers; transactions = transactions xs h.transactions }
  where
    askers : (ys : List Taken) → EachOther OtherAskers ys → EachOther OtherAskers (keeping ys t b)
    askers [] i = tt
    askers (y ∷ ys) i = (ended_askers ys t b y (is_bound_to t y.outcome) i.0, askers ys i.1)

    transactions : (ys : List Taken) → EachOther OtherTransactions ys → EachOther OtherTransactions (keeping ys t b)
    transactions [] i = tt
    transactions (y ∷ ys) i = (ended_transactions ys t b y (is_bound_to t y.outcome) i.0, transactions ys i.1)

-- ---- a line

-- a line takes up only what isn't known of the asker in hand, and opens a transaction that nobody waits for
abbrev pub TakesNew : Option Asker → List Taken → Line → Type 0
TakesNew (Some a) xs (line.Opened n k t d action) = (outcome_for xs a ≡ None) × (bound_to xs t ≡ None)
TakesNew (Some a) xs (line.Refused n d cause) = outcome_for xs a ≡ None
TakesNew a xs l = Unit {0}

opened_once : (a : Option Asker) (xs : List Taken) (n t : ℕ) (k : ClusterKey) (d : List ℕ) (action : Action) → TakesNew a xs (line.Opened n k t d action) → Once xs → Once (note_taken a xs (line.Opened n k t d action))
opened_once None xs n t k d action new h = h
opened_once (Some a) xs n t k d action new h = up_once xs a t new.0 new.1 h

refused_once : (a : Option Asker) (xs : List Taken) (n : ℕ) (d : List ℕ) (cause : Refusal) → TakesNew a xs (line.Refused n d cause) → Once xs → Once (note_taken a xs (line.Refused n d cause))
refused_once None xs n d cause new h = h
refused_once (Some a) xs n d cause new h = go (refusal_body cause)
  where
    by_end : (b : ReplyBody) (c : Bool) → Once (cond c xs (taking_up xs a (outcome.Kept b)))
    by_end b true = h
    by_end b false = kept_once xs a b new h

    go : (o : Option ReplyBody) → Once (keeping_refusal xs a o)
    go None = h
    go (Some b) = by_end b (a.from == client)

line_once : (a : Option Asker) (xs : List Taken) (l : Line) → TakesNew a xs l → Once xs → Once (note_taken a xs l)
line_once a xs (line.Opened n k t d action) new h = opened_once a xs n t k d action new h
line_once a xs (line.Refused n d cause) new h = refused_once a xs n d cause new h
line_once a xs (line.Value n k t d v) new h = ended_once xs t (found_body v) h
line_once a xs (line.Done n k t) new h = ended_once xs t reply.Done h
line_once a xs (line.Enter n k ms) new h = record { askers = tt; transactions = tt }
line_once a xs (line.Stop n) new h = record { askers = tt; transactions = tt }
line_once a xs _ new h = h

-- ---- a line of a world

-- so it is of the line where it stands
abbrev pub TakesNewAt : World → Line → Type 0
TakesNewAt w (line.Opened n k t d action) = TakesNew w.asker (w.requests.at n).taken (line.Opened n k t d action)
TakesNewAt w (line.Refused n d cause) = TakesNew w.asker (w.requests.at n).taken (line.Refused n d cause)
TakesNewAt w l = Unit {0}

abbrev pub AllOnce : World → Type 0
AllOnce w = (n : ℕ) → Once (w.requests.at n).taken

came_once : (w : World) (x : Option Arrival) → AllOnce w → AllOnce (came w x)
came_once w None h = h
came_once w (Some x) h = go (x.to == client)
  where
    at_client : (m : Message) → AllOnce (came_to_client w m)
    at_client (message.MapTable t) = h
    at_client _ = h

    go : (b : Bool) → AllOnce (cond b (came_to_client w x.message) (came_to_node w x))
    go true = at_client x.message
    go false = h

sent_once : (w : World) (a b : ℕ) (o : Option Message) → AllOnce w → AllOnce (sent_by w a b o)
sent_once w a b None h = h
sent_once w a b (Some m) h = h

at_one : (at : ℕ → NodeRequests) (n : ℕ) (r : NodeRequests) → ((m : ℕ) → Once (at m).taken) → Once r.taken → (m : ℕ) → Once (changed_at at n r m).taken
at_one at n r h new = at_each (λ m (x : NodeRequests). Once x.taken) at n r h new

pub world_once : (w : World) (l : Line) → TakesNewAt w l → AllOnce w → AllOnce (after w (Writes l))
world_once w (line.Opened n k t d action) new h = at_one w.requests.at n _ h (line_once w.asker (w.requests.at n).taken (line.Opened n k t d action) new (h n))
world_once w (line.Refused n d cause) new h = at_one w.requests.at n _ h (line_once w.asker (w.requests.at n).taken (line.Refused n d cause) new (h n))
world_once w (line.Value n k t d v) new h = at_one w.requests.at n _ h (ended_once (w.requests.at n).taken t (found_body v) (h n))
world_once w (line.Done n k t) new h = at_one w.requests.at n _ h (ended_once (w.requests.at n).taken t reply.Done (h n))
world_once w (line.Enter n k ms) new h = at_one w.requests.at n _ h (record { askers = tt; transactions = tt })
world_once w (line.Stop n) new h = at_one w.requests.at n _ h (record { askers = tt; transactions = tt })
world_once w (line.Proxy n k x d a to) new h = at_one w.requests.at n _ h (h n)
world_once w (line.Proxied n k x b) new h = at_one w.requests.at n _ h (h n)
world_once w (line.Unproxied n k x) new h = at_one w.requests.at n _ h (h n)
world_once w (line.Deliver i a b) new h = came_once w (option_and_then (arrived b) (posting_at w.network i)) h
world_once w (line.Repeat i a b) new h = came_once w (option_and_then (arrived b) (posting_at w.network i)) h
world_once w (line.Cut i a b size) new h = came_once w (option_and_then (arrived_cut b size) (posting_at w.network i)) h
world_once w (line.Sent i a b bytes) new h = sent_once (record w { network = posting w.network i (record { from = a; to = b; bytes = bytes }) }) a b (message_of bytes) h
world_once w _ new h = h

-- then no asker stands twice, and no transaction
pub taken_once : (w : World) → AllOnce w → (n : ℕ) → AreTakenOnce (w.requests.at n).taken
taken_once w h n = once_is (w.requests.at n).taken (h n)

-- ---- a request that is taken up

-- the request of an asker of whom nothing is known, where nobody waits for the next transaction, takes up what is new
pub request_takes_new : (xs : List Taken) (f : Facts) (clock : ℕ) (a : Asker) (d : List ℕ) (w : Want) → outcome_for xs a ≡ None → bound_to xs (f.transactions.opened + 1) ≡ None → EachFirst (TakesNew (Some a) xs) (due_request f clock d w).lines
request_takes_new xs f clock a d w new free = go (request_refusal f (list_at f (partition_of d)) d)
  where
    y : Transaction
    y = opening_transaction f (list_at f (partition_of d)) (f.transactions.opened + 1) d w

    done : (b : Bool) → EachFirst (TakesNew (Some a) xs) (only_if (line.Done f.me (view_key f) y.number) b)
    done true = (tt, tt)
    done false = tt

    resolves : (q : Want) → EachFirst (TakesNew (Some a) xs) (resolving_want f clock (list_at f (partition_of d)) y q).lines
    resolves want.Get = (tt, tt)
    resolves (want.Put bytes) = (tt, done (is_nil (other_replicas f (list_at f (partition_of d)))))
    resolves want.Del = (tt, done (is_nil (other_replicas f (list_at f (partition_of d)))))

    asks : (ns : List ℕ) → EachFirst (TakesNew (Some a) xs) (asking f clock (list_at f (partition_of d)) y ns).lines
    asks [] = resolves w
    asks (n ∷ ns) = tt

    go : (o : Option Refusal) → EachFirst (TakesNew (Some a) xs) (request_if f clock (list_at f (partition_of d)) d w o).lines
    go (Some cause) = (new, tt)
    go None = ((new, free), asks y.awaiting)
