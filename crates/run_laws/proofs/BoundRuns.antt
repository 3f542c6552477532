-- A request that a node took up for somebody, and whose transaction isn't over, has it running at the node: so a transaction that
-- opens has a number to which none is bound. For the table of whom a node replies to.
use Rattle.std.proofs.Common.{◌≡◌, ◌<◌, ℕ, ◌+◌, ◌==◌, ◌||◌, Bool, true, false, cond, not, List, [], ◌∷◌, ◌++◌, filter, map, Option, Some, None, refl, sym, ap, subst, ◌∙◌, ⊎_elim, inl, inr, ◌⊎◌, arith}
use Rattle.std.specs.Prelude.{option_and_then, find, is_some, option_map}
use Rattle.cluster_types.specs.Endpoints.{client}
use Rattle.cluster_types.specs.Partitions.{partition_of}
use Rattle.journal_lines.specs.declared.line.Line.{Line}
use Rattle.journal_lines.specs.declared.line.Line.TheVariants as line
use Rattle.journal_lines.specs.declared.refusal.Refusal.{Refusal}
use Rattle.journal_readings.specs.Messages.{Arrival, arrived, arrived_cut}
use Rattle.wire_messages.specs.declared.message.Message.{Message}
use Rattle.wire_messages.specs.declared.message.Message.TheVariants as message
use Rattle.wire_messages.specs.declared.reply.ReplyBody.{ReplyBody}
use Rattle.wire_messages.specs.declared.reply.ReplyBody.TheVariants as reply
use Rattle.wire_messages.specs.Decoding.{message_of}
use Rattle.node_rules.specs.Facts.{Facts, list_at}
use Rattle.node_rules.specs.Map.{list_master}
use Rattle.node_rules.specs.Notes.{in_view, note, reached, sent}
use Rattle.node_rules.specs.Notes as notes
use Rattle.node_rules.specs.Tables.{changed_if}
use Rattle.node_rules.specs.Transactions as transactions
use Rattle.node_rules.specs.Transactions.{Transaction, Transactions, transaction}
use Rattle.request_rules.specs.declared.taken.Asker.{Asker}
use Rattle.request_rules.specs.declared.taken.Outcome.{Outcome}
use Rattle.request_rules.specs.declared.taken.Outcome.TheVariants as outcome
use Rattle.request_rules.specs.declared.taken.Taken.{Taken}
use Rattle.request_rules.specs.Replies.{found_body, refusal_body}
use Rattle.request_rules.specs.Requests.{NodeRequests}
use Rattle.request_rules.specs.TakenUp.{bound_to, is_bound_to, keeping, keeping_refusal, refusing_for, replied_if, taking_up, taking_up_for}
use Rattle.cluster_rules.specs.Marks.{Mark, Begins, Writes, came, came_to_client, came_to_node, sent_by}
use Rattle.cluster_rules.specs.Network.{posting, posting_at}
use Rattle.cluster_rules.specs.Opening.{declared_factor, declared_policy}
use Rattle.cluster_rules.specs.Steps.{all_marks}
use Rattle.cluster_rules.specs.World.{World, changed_at, new_if}
use Rattle.cluster_laws.proofs.At.{number_here, number_same, differ, no_some}
use Rattle.run_laws.specs.Fronts.{Front, world_of, facts_at, front_after, front_after_all}
use Rattle.run_laws.specs.Taken.{first}
use Rattle.run_laws.specs.Worlds.{OfTakenWorlds, BindsWhatRuns}
use Rattle.run_laws.proofs.Journal.{Walked, world_all}
use Rattle.run_laws.proofs.Premised.{taken_leads}
use Rattle.run_laws.proofs.Turns.{here, away}

-- ---- what runs, and what is bound

-- whether a transaction of that number runs
abbrev is_running : List Transaction → ℕ → Bool
is_running [] t = false
is_running (y ∷ ys) t = (y.number == t) || is_running ys t

-- whether somebody waits for the open transaction of that number
abbrev is_awaited : List Taken → ℕ → Bool
is_awaited [] t = false
is_awaited (x ∷ xs) t = is_bound_to t x.outcome || is_awaited xs t

-- what is awaited runs
abbrev AwaitedRuns : List Taken → List Transaction → Type 0
AwaitedRuns taken running = (t : ℕ) → is_awaited taken t ≡ true → is_running running t ≡ true

either : (a b : Bool) → (a || b) ≡ true → (a ≡ true) ⊎ (b ≡ true)
either true b e = inl refl
either false b e = inr e

left_or : (a b : Bool) → a ≡ true → (a || b) ≡ true
left_or true b e = refl
left_or false b e = differ e refl

right_or : (a b : Bool) → b ≡ true → (a || b) ≡ true
right_or true b e = refl
right_or false b e = e

-- ---- what changes of transactions

opened_runs : (ys : List Transaction) (y : Transaction) (t : ℕ) → is_running ys t ≡ true → is_running (ys ++ y ∷ []) t ≡ true
opened_runs [] y t e = differ e refl
opened_runs (x ∷ ys) y t e = ⊎_elim (λ q. left_or (x.number == t) (is_running (ys ++ y ∷ []) t) q) (λ q. right_or (x.number == t) (is_running (ys ++ y ∷ []) t) (opened_runs ys y t q)) (either (x.number == t) (is_running ys t) e)

last_runs : (ys : List Transaction) (y : Transaction) (t : ℕ) → (y.number == t) ≡ true → is_running (ys ++ y ∷ []) t ≡ true
last_runs [] y t e = left_or (y.number == t) false e
last_runs (x ∷ ys) y t e = right_or (x.number == t) (is_running (ys ++ y ∷ []) t) (last_runs ys y t e)

-- another stays where one is closed
left_runs : (ys : List Transaction) (t u : ℕ) → (t == u) ≡ false → is_running ys u ≡ true → is_running (filter (λ (y : Transaction). not (y.number == t)) ys) u ≡ true
left_runs [] t u d e = differ e refl
left_runs (y ∷ ys) t u d e = go (y.number == t) refl (either (y.number == u) (is_running ys u) e) (λ q. left_runs ys t u d q)
  where
    go : (b : Bool) → (y.number == t) ≡ b → ((y.number == u) ≡ true) ⊎ (is_running ys u ≡ true) → (is_running ys u ≡ true → is_running (filter (λ (x : Transaction). not (x.number == t)) ys) u ≡ true) → is_running (cond (not b) (y ∷ filter (λ (x : Transaction). not (x.number == t)) ys) (filter (λ (x : Transaction). not (x.number == t)) ys)) u ≡ true
    go true i (inl q) rest = differ (ap (λ (j : ℕ). j == u) (sym (number_same y.number t i)) ∙ q) d
    go true i (inr q) rest = rest q
    go false i (inl q) rest = left_or (y.number == u) _ q
    go false i (inr q) rest = right_or (y.number == u) _ (rest q)

-- a change that keeps numbers keeps what runs
changed_runs : (ys : List Transaction) (change : Transaction → Transaction) (t u : ℕ) → ((y : Transaction) → (change y).number ≡ y.number) → is_running ys u ≡ true → is_running (map (λ (y : Transaction). changed_if change y (y.number == t)) ys) u ≡ true
changed_runs [] change t u k e = e
changed_runs (y ∷ ys) change t u k e = ⊎_elim (λ q. left_or _ (is_running rest u) (ap (λ (j : ℕ). j == u) (same (y.number == t)) ∙ q)) (λ q. right_or _ (is_running rest u) (changed_runs ys change t u k q)) (either (y.number == u) (is_running ys u) e)
  where
    rest : List Transaction
    rest = map (λ (x : Transaction). changed_if change x (x.number == t)) ys

    same : (b : Bool) → (changed_if change y b).number ≡ y.number
    same true = k y
    same false = refl

if_number : (change : Transaction → Transaction) (y : Transaction) (b : Bool) → ((x : Transaction) → (change x).number ≡ x.number) → (changed_if change y b).number ≡ y.number
if_number change y true k = k y
if_number change y false k = refl

-- ---- what changes of what was taken up

up_awaited : (xs : List Taken) (a : Asker) (t u : ℕ) → is_awaited (taking_up xs a (outcome.Open t)) u ≡ true → (is_awaited xs u ≡ true) ⊎ ((t == u) ≡ true)
up_awaited [] a t u e = ⊎_elim (λ q. inr q) (λ q. differ q refl) (either (t == u) false e)
up_awaited (x ∷ xs) a t u e = ⊎_elim (λ q. inl (left_or (is_bound_to u x.outcome) (is_awaited xs u) q)) (λ q. ⊎_elim (λ r. inl (right_or (is_bound_to u x.outcome) (is_awaited xs u) r)) (λ r. inr r) (up_awaited xs a t u q)) (either (is_bound_to u x.outcome) (is_awaited (taking_up xs a (outcome.Open t)) u) e)

kept_awaited : (xs : List Taken) (a : Asker) (b : ReplyBody) (u : ℕ) → is_awaited (taking_up xs a (outcome.Kept b)) u ≡ true → is_awaited xs u ≡ true
kept_awaited [] a b u e = e
kept_awaited (x ∷ xs) a b u e = ⊎_elim (λ q. left_or (is_bound_to u x.outcome) (is_awaited xs u) q) (λ q. right_or (is_bound_to u x.outcome) (is_awaited xs u) (kept_awaited xs a b u q)) (either (is_bound_to u x.outcome) (is_awaited (taking_up xs a (outcome.Kept b)) u) e)

-- where a transaction ended, another is awaited
ended_awaited : (xs : List Taken) (t u : ℕ) (b : ReplyBody) → is_awaited (keeping xs t b) u ≡ true → (is_awaited xs u ≡ true) × ((t == u) ≡ false)
ended_awaited [] t u b e = differ e refl
ended_awaited (x ∷ xs) t u b e = go (is_bound_to t x.outcome) refl (λ q. ended_awaited xs t u b q) e
  where
    apart : (o : Outcome) → is_bound_to t o ≡ false → is_bound_to u o ≡ true → (t == u) ≡ false
    apart (outcome.Open v) f q = other (t == u) refl
      where
        other : (c : Bool) → (t == u) ≡ c → c ≡ false
        other false i = refl
        other true i = differ (ap (λ (j : ℕ). v == j) (number_same t u i) ∙ q) f
    apart (outcome.Kept c) f q = differ q refl

    go : (c : Bool) → is_bound_to t x.outcome ≡ c → (is_awaited (keeping xs t b) u ≡ true → (is_awaited xs u ≡ true) × ((t == u) ≡ false)) → (is_bound_to u (replied_if b x c).outcome || is_awaited (keeping xs t b) u) ≡ true → ((is_bound_to u x.outcome || is_awaited xs u) ≡ true) × ((t == u) ≡ false)
    go true i rest q = let r : (is_awaited xs u ≡ true) × ((t == u) ≡ false) = rest q in (right_or (is_bound_to u x.outcome) (is_awaited xs u) r.0, r.1)
    go false i rest q = ⊎_elim (λ p. (left_or (is_bound_to u x.outcome) (is_awaited xs u) p, apart x.outcome i p)) (λ p. let r : (is_awaited xs u ≡ true) × ((t == u) ≡ false) = rest p in (right_or (is_bound_to u x.outcome) (is_awaited xs u) r.0, r.1)) (either (is_bound_to u x.outcome) (is_awaited (keeping xs t b) u) q)

-- whoever is bound to is awaited
bound_awaited : (xs : List Taken) (t : ℕ) (a : Asker) → bound_to xs t ≡ Some a → is_awaited xs t ≡ true
bound_awaited [] t a e = no_some e
bound_awaited (x ∷ xs) t a e = go (is_bound_to t x.outcome) e (bound_awaited xs t a)
  where
    go : (b : Bool) → option_map (λ (y : Taken). y.asker) (cond b (Some x) (find (λ (y : Taken). is_bound_to t y.outcome) xs)) ≡ Some a → (bound_to xs t ≡ Some a → is_awaited xs t ≡ true) → (b || is_awaited xs t) ≡ true
    go true e rest = refl
    go false e rest = rest e

running_found : (ys : List Transaction) (t : ℕ) → is_running ys t ≡ true → (y : Transaction) × (find (λ (x : Transaction). x.number == t) ys ≡ Some y)
running_found [] t e = differ e refl
running_found (y ∷ ys) t e = go (y.number == t) (either (y.number == t) (is_running ys t) e) (running_found ys t)
  where
    go : (b : Bool) → (b ≡ true) ⊎ (is_running ys t ≡ true) → (is_running ys t ≡ true → (x : Transaction) × (find (λ (x : Transaction). x.number == t) ys ≡ Some x)) → (x : Transaction) × (cond b (Some y) (find (λ (x : Transaction). x.number == t) ys) ≡ Some x)
    go true q rest = (y, refl)
    go false (inl q) rest = differ q refl
    go false (inr q) rest = rest q

-- ---- a line of the node

opens : (a : Option Asker) (taken : List Taken) (ys : List Transaction) (y : Transaction) (t : ℕ) → (y.number == t) ≡ true → AwaitedRuns taken ys → AwaitedRuns (taking_up_for taken a (outcome.Open t)) (ys ++ y ∷ [])
opens None taken ys y t e h u i = opened_runs ys y u (h u i)
opens (Some a) taken ys y t e h u i = ⊎_elim (λ q. opened_runs ys y u (h u q)) (λ q. last_runs ys y u (ap (λ (j : ℕ). j == u) (number_same y.number t e) ∙ q)) (up_awaited taken a t u i)

ends : (taken : List Taken) (ys : List Transaction) (t : ℕ) (b : ReplyBody) → AwaitedRuns taken ys → AwaitedRuns (keeping taken t b) (filter (λ (y : Transaction). not (y.number == t)) ys)
ends taken ys t b h u i = let q : (is_awaited taken u ≡ true) × ((t == u) ≡ false) = ended_awaited taken t u b i in left_runs ys t u q.1 (h u q.0)

refuses : (a : Option Asker) (taken : List Taken) (ys : List Transaction) (cause : Refusal) → AwaitedRuns taken ys → AwaitedRuns (refusing_for taken a cause) ys
refuses None taken ys cause h = h
refuses (Some a) taken ys cause h = go (refusal_body cause)
  where
    by_end : (b : ReplyBody) (c : Bool) → AwaitedRuns (cond c taken (taking_up taken a (outcome.Kept b))) ys
    by_end b true = h
    by_end b false = λ u i. h u (kept_awaited taken a b u i)

    go : (o : Option ReplyBody) → AwaitedRuns (keeping_refusal taken a o) ys
    go None = h
    go (Some b) = by_end b (a.from == client)

-- ---- a message that reaches the node, or that it sends

beside_runs : (a b : Transactions) → a.running ≡ b.running → (u : ℕ) → is_running b.running u ≡ true → is_running a.running u ≡ true
beside_runs a b same u e = ap (λ (ys : List Transaction). is_running ys u) same ∙ e

acked_runs : (ys : List Transaction) (from t u : ℕ) → is_running ys u ≡ true → is_running (map (λ (y : Transaction). changed_if (λ x. changed_if (transactions.acknowledged from) x (transactions.awaits_ack x from)) y (y.number == t)) ys) u ≡ true
acked_runs ys from t u e = changed_runs ys (λ x. changed_if (transactions.acknowledged from) x (transactions.awaits_ack x from)) t u (λ y. if_number (transactions.acknowledged from) y (transactions.awaits_ack y from) (λ x. refl)) e

reached_runs : (f : Facts) (from : ℕ) (m : Message) (u : ℕ) → is_running f.transactions.running u ≡ true → is_running (reached f from m).transactions.running u ≡ true
reached_runs f from (message.Heartbeat view promised hears role) u e = e
reached_runs f from (message.Accept k) u e = e
reached_runs f from (message.Refuse k promised) u e = e
reached_runs f from (message.State k wants row) u e = go (in_view f k)
  where
    go : (b : Bool) → is_running (notes.row_came f from row b).transactions.running u ≡ true
    go true = e
    go false = e
reached_runs f from (message.BatchAck k number) u e = go (in_view f k)
  where
    go : (b : Bool) → is_running (notes.batch_acked f from number b).transactions.running u ≡ true
    go true = e
    go false = e
reached_runs f from (message.Progress k wants done handed settled) u e = go (in_view f k)
  where
    go : (b : Bool) → is_running (notes.progress_came f from done handed settled b).transactions.running u ≡ true
    go true = e
    go false = e
reached_runs f from (message.Repl k t nth d v) u e = go (in_view f k)
  where
    counted : (p : ℕ) (c : Bool) → is_running (notes.write_counted_if f k (list_at f p) p nth c).transactions.running u ≡ true
    counted p true = e
    counted p false = e

    go : (b : Bool) → is_running (notes.write_came f from k nth (partition_of d) b).transactions.running u ≡ true
    go true = counted (partition_of d) (from == list_master (list_at f (partition_of d)))
    go false = e
reached_runs f from (message.ReplAck k t) u e = go (in_view f k)
  where
    go : (b : Bool) → is_running (notes.write_acked f from t b).transactions.running u ≡ true
    go true = acked_runs f.transactions.running from t u e
    go false = e
reached_runs f from (message.Answer k t v) u e = go (in_view f k)
  where
    go : (b : Bool) → is_running (notes.answer_came f from t v b).transactions.running u ≡ true
    go true = changed_runs f.transactions.running (λ x. changed_if (transactions.answered f.store.by from v) x (transactions.awaits_answer x from)) t u (λ y. if_number (transactions.answered f.store.by from v) y (transactions.awaits_answer y from) (λ x. refl)) e
    go false = e
reached_runs f from _ u e = e

sent_runs : (f : Facts) (to : ℕ) (m : Message) (u : ℕ) → is_running f.transactions.running u ≡ true → is_running (sent f to m).transactions.running u ≡ true
sent_runs f to (message.Propose k ms) u e = e
sent_runs f to (message.Batch b) u e = e
sent_runs f to _ u e = e

-- ---- every mark

-- what is awaited of a node runs, unless the node has given up a transaction and is about to leave its view
abbrev pub BoundAll : Front → Type 0
BoundAll z = (m : ℕ) → z.closing m ≡ false → AwaitedRuns ((world_of z).requests.at m).taken (facts_at z m).transactions.running

-- one node's facts and what it took up change
one_bound : (z y : Front) (n : ℕ) (g : Facts) (taken : List Taken) → BoundAll z → ((m : ℕ) → facts_at y m ≡ changed_at (world_of z).facts n g m) → ((m : ℕ) → ((world_of y).requests.at m).taken ≡ new_if taken (λ k. ((world_of z).requests.at k).taken) m (n == m))
    → ((m : ℕ) → (n == m) ≡ false → y.closing m ≡ z.closing m) → (y.closing n ≡ false → AwaitedRuns taken g.transactions.running) → BoundAll y
one_bound z y n g taken h facts kept closing here m c = go (n == m) refl
  where
    go : (b : Bool) → (n == m) ≡ b → AwaitedRuns ((world_of y).requests.at m).taken (facts_at y m).transactions.running
    go true e = subst (λ (xs : List Taken). AwaitedRuns xs (facts_at y m).transactions.running) (sym (kept m ∙ ap (new_if taken (λ k. ((world_of z).requests.at k).taken) m) e))
        (subst (λ (f : Facts). AwaitedRuns taken f.transactions.running) (sym (facts m ∙ ap (new_if g (world_of z).facts m) e)) (here (ap y.closing (number_same n m e) ∙ c)))
    go false e = subst (λ (xs : List Taken). AwaitedRuns xs (facts_at y m).transactions.running) (sym (kept m ∙ ap (new_if taken (λ k. ((world_of z).requests.at k).taken) m) e))
        (subst (λ (f : Facts). AwaitedRuns ((world_of z).requests.at m).taken f.transactions.running) (sym (facts m ∙ ap (new_if g (world_of z).facts m) e)) (h m (sym (closing m e) ∙ c)))

-- one node's facts change, and whatever ran runs
facts_bound : (z y : Front) (n : ℕ) (g : Facts) → BoundAll z → ((m : ℕ) → facts_at y m ≡ changed_at (world_of z).facts n g m) → ((m : ℕ) → ((world_of y).requests.at m).taken ≡ ((world_of z).requests.at m).taken)
    → y.closing ≡ z.closing → ((u : ℕ) → is_running (facts_at z n).transactions.running u ≡ true → is_running g.transactions.running u ≡ true) → BoundAll y
facts_bound z y n g h facts kept closing more m c u e = subst (λ (f : Facts). is_running f.transactions.running u ≡ true) (sym (facts m)) (go (n == m) refl)
  where
    ran : is_running (facts_at z m).transactions.running u ≡ true
    ran = h m (sym (ap (λ (q : ℕ → Bool). q m) closing) ∙ c) u (ap (λ (xs : List Taken). is_awaited xs u) (sym (kept m)) ∙ e)

    go : (b : Bool) → (n == m) ≡ b → is_running (new_if g (world_of z).facts m b).transactions.running u ≡ true
    go true i = more u (ap (λ (j : ℕ). is_running (facts_at z j).transactions.running u) (number_same n m i) ∙ ran)
    go false i = ran

-- no facts change
still_bound : (z y : Front) → BoundAll z → ((m : ℕ) → facts_at y m ≡ facts_at z m) → ((m : ℕ) → ((world_of y).requests.at m).taken ≡ ((world_of z).requests.at m).taken) → y.closing ≡ z.closing → BoundAll y
still_bound z y h facts kept closing m c u e = subst (λ (f : Facts). is_running f.transactions.running u ≡ true) (sym (facts m)) (h m (sym (ap (λ (q : ℕ → Bool). q m) closing) ∙ c) u (ap (λ (xs : List Taken). is_awaited xs u) (sym (kept m)) ∙ e))

-- what a node took up, where the requests of one node are other ones
taken_changed : (at : ℕ → NodeRequests) (n : ℕ) (r : NodeRequests) (m : ℕ) → (changed_at at n r m).taken ≡ new_if r.taken (λ k. (at k).taken) m (n == m)
taken_changed at n r m = go (n == m)
  where
    go : (b : Bool) → (new_if r at m b).taken ≡ new_if r.taken (λ k. (at k).taken) m b
    go true = refl
    go false = refl

-- what a node took up stays, where the requests of one node are others with the same
taken_stays : (at : ℕ → NodeRequests) (n : ℕ) (r : NodeRequests) → r.taken ≡ (at n).taken → (m : ℕ) → (changed_at at n r m).taken ≡ (at m).taken
taken_stays at n r same m = go (n == m) refl
  where
    go : (b : Bool) → (n == m) ≡ b → (new_if r at m b).taken ≡ (at m).taken
    go true e = same ∙ ap (λ (k : ℕ). (at k).taken) (number_same n m e)
    go false e = refl

-- a place that holds what it held
held : {A : Type 0} (f : ℕ → A) (n m : ℕ) → f m ≡ new_if (f n) f m (n == m)
held {A} f n m = go (n == m) refl
  where
    go : (b : Bool) → (n == m) ≡ b → f m ≡ new_if (f n) f m b
    go true e = ap f (sym (number_same n m e))
    go false e = refl

-- the node is about to leave its view
gives_up : (z y : Front) (n t : ℕ) → BoundAll z → y.closing ≡ changed_at z.closing n true → ((m : ℕ) → facts_at y m ≡ changed_at (world_of z).facts n (notes.closed (facts_at z n) t) m) → ((m : ℕ) → ((world_of y).requests.at m).taken ≡ ((world_of z).requests.at m).taken) → BoundAll y
gives_up z y n t h closing facts kept =
    one_bound z y n (notes.closed (facts_at z n) t) ((world_of z).requests.at n).taken h facts (λ m. kept m ∙ held (λ k. ((world_of z).requests.at k).taken) n m)
    (λ m e. ap (λ (q : ℕ → Bool). q m) closing ∙ away z.closing n true m e) (λ c. differ refl (sym (here z.closing n true) ∙ sym (ap (λ (q : ℕ → Bool). q n) closing) ∙ c))

-- the node leaves its view
leaves_all : (z y : Front) (n : ℕ) (g : Facts) → BoundAll z → y.closing ≡ changed_at z.closing n false → ((m : ℕ) → facts_at y m ≡ changed_at (world_of z).facts n g m) → ((m : ℕ) → ((world_of y).requests.at m).taken ≡ new_if [] (λ k. ((world_of z).requests.at k).taken) m (n == m)) → BoundAll y
leaves_all z y n g h closing facts kept =
    one_bound z y n g [] h facts kept (λ m e. ap (λ (q : ℕ → Bool). q m) closing ∙ away z.closing n false m e) (λ c u i. differ i refl)

came_bound : (z y : Front) (x : Option Arrival) → BoundAll z → world_of y ≡ came (world_of z) x → y.closing ≡ z.closing → BoundAll y
came_bound z y None h world closing = still_bound z y h (λ m. ap (λ (w : World). w.facts m) world) (λ m. ap (λ (w : World). (w.requests.at m).taken) world) closing
came_bound z y (Some x) h world closing = go (x.to == client) world
  where
    at_client : (m : Message) → world_of y ≡ came_to_client (world_of z) m → BoundAll y
    at_client (message.MapTable t) w = still_bound z y h (λ m. ap (λ (v : World). v.facts m) w) (λ m. ap (λ (v : World). (v.requests.at m).taken) w) closing
    at_client _ w = still_bound z y h (λ m. ap (λ (v : World). v.facts m) w) (λ m. ap (λ (v : World). (v.requests.at m).taken) w) closing

    go : (b : Bool) → world_of y ≡ cond b (came_to_client (world_of z) x.message) (came_to_node (world_of z) x) → BoundAll y
    go true w = at_client x.message w
    go false w = facts_bound z y x.to (reached (facts_at z x.to) x.from x.message) h (λ m. ap (λ (v : World). v.facts m) w) (λ m. ap (λ (v : World). (v.requests.at m).taken) w) closing (reached_runs (facts_at z x.to) x.from x.message)

posted_bound : (z y : Front) (i a b : ℕ) (bytes : List ℕ) (o : Option Message) → BoundAll z → world_of y ≡ sent_by (record (world_of z) { network = posting (world_of z).network i (record { from = a; to = b; bytes = bytes }) }) a b o → y.closing ≡ z.closing → BoundAll y
posted_bound z y i a b bytes None h world closing = still_bound z y h (λ m. ap (λ (w : World). w.facts m) world) (λ m. ap (λ (w : World). (w.requests.at m).taken) world) closing
posted_bound z y i a b bytes (Some x) h world closing = facts_bound z y a (sent (facts_at z a) b x) h (λ m. ap (λ (w : World). w.facts m) world) (λ m. ap (λ (w : World). (w.requests.at m).taken) world) closing (sent_runs (facts_at z a) b x)

line_bound : (z : Front) (l : Line) → BoundAll z → BoundAll (front_after z (Writes l))
line_bound z (line.Tick n) h = facts_bound z (front_after z (Writes (line.Tick n))) n _ h (λ m. refl) (λ m. refl) refl (λ u e. e)
line_bound z (line.Start n) h = facts_bound z (front_after z (Writes (line.Start n))) n _ h (λ m. refl) (λ m. refl) refl (λ u e. e)
line_bound z (line.Quiesce n) h = facts_bound z (front_after z (Writes (line.Quiesce n))) n _ h (λ m. refl) (λ m. refl) refl (λ u e. e)
line_bound z (line.Unquiesce n) h = facts_bound z (front_after z (Writes (line.Unquiesce n))) n _ h (λ m. refl) (λ m. refl) refl (λ u e. e)
line_bound z (line.Promise n k) h = facts_bound z (front_after z (Writes (line.Promise n k))) n _ h (λ m. refl) (λ m. refl) refl (λ u e. e)
line_bound z (line.Exchanged n k) h = facts_bound z (front_after z (Writes (line.Exchanged n k))) n _ h (λ m. refl) (λ m. refl) refl (λ u e. e)
line_bound z (line.Merge n k d v) h = facts_bound z (front_after z (Writes (line.Merge n k d v))) n _ h (λ m. refl) (λ m. refl) refl (λ u e. e)
line_bound z (line.Handed n k p) h = facts_bound z (front_after z (Writes (line.Handed n k p))) n _ h (λ m. refl) (λ m. refl) refl (λ u e. e)
line_bound z (line.Settled n k p) h = facts_bound z (front_after z (Writes (line.Settled n k p))) n _ h (λ m. refl) (λ m. refl) refl (λ u e. e)
line_bound z (line.Learn n k p) h = facts_bound z (front_after z (Writes (line.Learn n k p))) n _ h (λ m. refl) (λ m. refl) refl (λ u e. e)
line_bound z (line.Drop n k p) h = facts_bound z (front_after z (Writes (line.Drop n k p))) n _ h (λ m. refl) (λ m. refl) refl (λ u e. e)
line_bound z (line.Stop n) h = leaves_all z (front_after z (Writes (line.Stop n))) n _ h refl (λ m. refl) (taken_changed (world_of z).requests.at n _)
line_bound z (line.Enter n k ms) h = leaves_all z (front_after z (Writes (line.Enter n k ms))) n _ h refl (λ m. refl) (taken_changed (world_of z).requests.at n _)
line_bound z (line.Opened n k t d a) h =
    one_bound z (front_after z (Writes (line.Opened n k t d a))) n _ _ h (λ m. refl) (taken_changed (world_of z).requests.at n _) (λ m e. refl)
    (λ c. opens (world_of z).asker ((world_of z).requests.at n).taken (facts_at z n).transactions.running (notes.opening_transaction (facts_at z n) (list_at (facts_at z n) (partition_of d)) t d (notes.request_want (world_of z).want a)) t (number_here t) (h n c))
line_bound z (line.Value n k t d v) h = one_bound z (front_after z (Writes (line.Value n k t d v))) n _ _ h (λ m. refl) (taken_changed (world_of z).requests.at n _) (λ m e. refl) (λ c. ends ((world_of z).requests.at n).taken (facts_at z n).transactions.running t (found_body v) (h n c))
line_bound z (line.Done n k t) h = one_bound z (front_after z (Writes (line.Done n k t))) n _ _ h (λ m. refl) (taken_changed (world_of z).requests.at n _) (λ m e. refl) (λ c. ends ((world_of z).requests.at n).taken (facts_at z n).transactions.running t reply.Done (h n c))
line_bound z (line.Apply n k t d v) h = facts_bound z (front_after z (Writes (line.Apply n k t d v))) n _ h (λ m. refl) (λ m. refl) refl (λ u e. changed_runs (facts_at z n).transactions.running _ t u (λ y. refl) e)
line_bound z (line.Aborted n k t) h = gives_up z (front_after z (Writes (line.Aborted n k t))) n t h refl (λ m. refl) (λ m. refl)
line_bound z (line.Doubt n k t) h = gives_up z (front_after z (Writes (line.Doubt n k t))) n t h refl (λ m. refl) (λ m. refl)
line_bound z (line.Refused n d cause) h = one_bound z (front_after z (Writes (line.Refused n d cause))) n (facts_at z n) _ h (λ m. held (world_of z).facts n m) (taken_changed (world_of z).requests.at n _) (λ m e. refl) (λ c. refuses (world_of z).asker ((world_of z).requests.at n).taken (facts_at z n).transactions.running cause (h n c))
line_bound z (line.Proxy n k x d a to) h = still_bound z (front_after z (Writes (line.Proxy n k x d a to))) h (λ m. refl) (taken_stays (world_of z).requests.at n _ refl) refl
line_bound z (line.Proxied n k x b) h = still_bound z (front_after z (Writes (line.Proxied n k x b))) h (λ m. refl) (taken_stays (world_of z).requests.at n _ refl) refl
line_bound z (line.Unproxied n k x) h = still_bound z (front_after z (Writes (line.Unproxied n k x))) h (λ m. refl) (taken_stays (world_of z).requests.at n _ refl) refl
line_bound z (line.Deliver i a b) h = came_bound z (front_after z (Writes (line.Deliver i a b))) (option_and_then (arrived b) (posting_at (world_of z).network i)) h refl refl
line_bound z (line.Repeat i a b) h = came_bound z (front_after z (Writes (line.Repeat i a b))) (option_and_then (arrived b) (posting_at (world_of z).network i)) h refl refl
line_bound z (line.Cut i a b size) h = came_bound z (front_after z (Writes (line.Cut i a b size))) (option_and_then (arrived_cut b size) (posting_at (world_of z).network i)) h refl refl
line_bound z (line.Sent i a b bytes) h = posted_bound z (front_after z (Writes (line.Sent i a b bytes))) i a b bytes (message_of bytes) h refl refl
line_bound z l h = still_bound z (front_after z (Writes l)) h (λ m. refl) (λ m. refl) refl

mark_bound : (z : Front) (m : Mark) → BoundAll z → BoundAll (front_after z m)
mark_bound z (Begins e) h = h
mark_bound z (Writes l) h = line_bound z l h

all_bound : (z : Front) (ms : List Mark) → BoundAll z → BoundAll (front_after_all z ms)
all_bound z [] h = h
all_bound z (m ∷ ms) h = all_bound (front_after z m) ms (mark_bound z m h)

-- behind a step nobody is about to leave, so whoever is bound to runs
bound_runs : (z : Front) → BoundAll z → ((n : ℕ) → z.closing n ≡ false) → (n t : ℕ) (a : Asker) → bound_to ((world_of z).requests.at n).taken t ≡ Some a → (y : Transaction) × (transaction (facts_at z n).transactions t ≡ Some y)
bound_runs z h stays n t a e = running_found (facts_at z n).transactions.running t (h n (stays n) t (bound_awaited ((world_of z).requests.at n).taken t a e))

-- so none is bound to the number of a transaction that opens
free_number : (z : Front) → BoundAll z → ((n : ℕ) → z.closing n ≡ false) → (n t : ℕ) → transaction (facts_at z n).transactions t ≡ None → bound_to ((world_of z).requests.at n).taken t ≡ None
free_number z h stays n t none = go (bound_to ((world_of z).requests.at n).taken t) refl
  where
    go : (o : Option Asker) → bound_to ((world_of z).requests.at n).taken t ≡ o → o ≡ None
    go None e = refl
    go (Some a) e = let y : (y : Transaction) × (transaction (facts_at z n).transactions t ≡ Some y) = bound_runs z h stays n t a e in no_some (sym none ∙ y.1)

-- ---- of the world after steps that are taken

is_there : {A : Type 0} (o : Option A) (y : A) → o ≡ Some y → is_some o ≡ true
is_there {A} o y e = ap is_some e

above : (n : ℕ) → n < n + 1
above n = omega arith

pub binds_what_runs : OfTakenWorlds BindsWhatRuns
binds_what_runs h ss t =
    let z : Front = front_after_all (first h) (all_marks ss) in
    let w : Walked (declared_policy h) (declared_factor h) (first h) (all_marks ss) = taken_leads h ss t in
    let bound : BoundAll z = all_bound (first h) (all_marks ss) (λ m c u i. differ i refl) in
    subst (BindsWhatRuns h) (world_all (first h) (all_marks ss)) (record {
      running = λ n u a e. let y : (y : Transaction) × (transaction (facts_at z n).transactions u ≡ Some y) = bound_runs z bound w.ends.stays n u a e in is_there (transaction (facts_at z n).transactions u) y.0 y.1;
      next = λ n. free_number z bound w.ends.stays n ((facts_at z n).transactions.opened + 1) ((w.lawful.nodes n).counted ((facts_at z n).transactions.opened + 1) (above (facts_at z n).transactions.opened));
    })
