-- The invariant is kept by each licensed mark.
use Rattle.std.proofs.Common.{◌≡◌, ℕ, zero, suc, ◌≤◌, ◌-◌, ◌==◌, ◌⊎◌, Bool, true, false, List, [], ◌∷◌, ◌++◌, Option, Some, None, refl, sym, ap, subst, arith, inl, inr, ⊎_elim, nat_lt, take, if◌then◌else◌, map}
use Rattle.std.specs.Prelude.{slice_get, option_and_then, option_map}
use Rattle.cluster_types.specs.declared.cluster_key.ClusterKey.{ClusterKey}
use Rattle.cluster_types.specs.declared.member.Member.{Member}
use Rattle.cluster_types.specs.ClusterKeys.{IsBelow}
use Rattle.wire_messages.specs.declared.message.Message.{Message}
use Rattle.wire_messages.specs.declared.message.Message.TheVariants as message
use Rattle.wire_messages.specs.declared.message.MapTable.{MapTable}
use Rattle.wire_messages.specs.Decoding.{message_of}
use Rattle.journal_lines.specs.declared.line.Line.{Line}
use Rattle.journal_lines.specs.declared.line.Line.TheVariants as line
use Rattle.node_rules.specs.Agreement.{Agreement, Proposal, proposes, proposal_of}
use Rattle.node_rules.specs.Batches as batches
use Rattle.node_rules.specs.Batches.{Target, Targets}
use Rattle.cluster_types.specs.Partitions.{partition_count, partition_of}
use Rattle.node_rules.specs.Copies.{storing}
use Rattle.node_rules.specs.Stamps.{spoiled}
use Rattle.node_rules.specs.Facts.{Facts}
use Rattle.node_rules.specs.Standing.{others}
use Rattle.node_rules.specs.Tables.{changed_if}
use Rattle.wire_messages.specs.declared.message.Batch.{Batch}
use Rattle.node_rules.specs.Notes.{sent, target_for, exchanged}
use Rattle.request_rules.specs.Requests.{Requests}
use Rattle.cluster_rules.specs.declared.event.Event.{Event}
use Rattle.cluster_rules.specs.declared.event.Event.TheVariants as event
use Rattle.journal_readings.specs.Messages.{Posting, Arrival, arrived, arrived_cut}
use Rattle.cluster_rules.specs.Network.{posting_at, posting}
use Rattle.cluster_rules.specs.Marks.{Mark, Begins, Writes, came, sent_by, posted_by, came_to_client, came_to_node}
use Rattle.node_rules.specs.Messages.{client}
use Rattle.key_laws.specs.Order.{KeyAtMost}
use Rattle.key_laws.specs.Traced.{Traced, facts_of, traced_after, traced_after_all}
use Rattle.key_laws.specs.Licences.{IsPromisedKey, Says, SaysIf, MaySendKey, MaySendKeyIf, Proposes, MayPromise, OkLine, OkMark, LicensedMarks, MayFinishExchange}
use Rattle.key_laws.proofs.Order.{at_most_refl, at_most_eq}
use Rattle.key_laws.specs.Sound.{Agrees, OutKnown, Outs, NodeKeys, Shown, Sound, Grows, ViewStands}
use Rattle.key_laws.proofs.Growth.{same_grows, grows_on, known_grows, says_grows, node_grows, listed_grows, shown_grow}
use Rattle.key_laws.proofs.Frames.{num_same, num_differ, never, moved, moved_grows, kept_moved, SameKeys, kept_same, same_moved_grows}
use Rattle.key_laws.proofs.StampLaws.{stamps_changed, stamps_with, stamps_without, recounted_known, spoiled_known, stamped_known}
use Rattle.key_laws.proofs.KeptNodes.{kept_reached, reached_grows, kept_tick, kept_stop, entered_as, kept_enter, promised_in, promise_grows, promise_own, promise_known, kept_own_promise, kept_other_promise, enter_grows}

-- a mark keeps the invariant, and what can't become false
pub record Keeps (t u : Traced) : Type 0 where
  pub sound : Sound u
  pub grows : Grows t u

-- ---- a message arrives

pub record WasPosted (t : Traced) (p : Posting) : Type 0 where
  pub place : ℕ
  pub stands : slice_get t.world.network.sent place ≡ Some p

pub was_posted : (t : Traced) (i : ℕ) (p : Posting) → posting_at t.world.network i ≡ Some p → WasPosted t p
was_posted t i p e = go (nat_lt 0 i) e
  where
    go : (b : Bool) → (if b then slice_get t.world.network.sent (i - 1) else None) ≡ Some p → WasPosted t p
    go true e = record { place = i - 1; stands = e }
    go false e = absurd (grind arith)

-- the world in which this has arrived
abbrev pub arrived_in : Traced → Option Arrival → Traced
arrived_in t x = record { world = came t.world x; lists = t.lists; entered = t.entered }

abbrev pub Told : Traced → Option Arrival → Type 0
Told t None = Unit {0}
Told t (Some x) = Says t x.from x.message

shown_more : (t : Traced) (xs : List MapTable) (x : MapTable) → Shown t xs → IsPromisedKey t x.key → Shown t (xs ++ x ∷ [])
shown_more t [] x h k = (k, tt)
shown_more t (y ∷ ys) x h k = (h.0, shown_more t ys x h.1 k)

kept_table : (t : Traced) (x : MapTable) → IsPromisedKey t x.key → Sound t → Keeps t (record { world = record t.world { tables = t.world.tables ++ x ∷ [] }; lists = t.lists; entered = t.entered })
kept_table t x k h =
    let u : Traced = record { world = record t.world { tables = t.world.tables ++ x ∷ [] }; lists = t.lists; entered = t.entered } in
    let g : Grows t u = record { promised = λ n. at_most_refl _; lists = λ q ms e. e; sent = λ i p e. e; entered = λ m q e. e } in
    record {
      sound = record {
        nodes = λ n. node_grows t u g n (facts_of t n) (h.nodes n);
        lists = λ q ms e. listed_grows t u g q ms (h.lists q ms e);
        sent = λ i p m s e. says_grows t u g p.from m (h.sent i p m s e);
        tables = shown_grow t u g _ (shown_more t t.world.tables x h.tables k);
      };
      grows = g;
    }

unchanged : (t : Traced) → Sound t → Keeps t t
unchanged t h = record { sound = h; grows = same_grows t }

arrived_at_client : (t : Traced) (x : Arrival) → Says t x.from x.message → Sound t → Keeps t (record { world = came_to_client t.world x.message; lists = t.lists; entered = t.entered })
arrived_at_client t x s h = go x.from x.message s
  where
    go : (from : ℕ) (m : Message) → Says t from m → Keeps t (record { world = came_to_client t.world m; lists = t.lists; entered = t.entered })
    go from (message.MapTable table) s = kept_table t table s h
    go from _ s = unchanged t h

-- at a node
pub kept_node : (t : Traced) (x : Arrival) → Says t x.from x.message → Sound t → Keeps t (record { world = came_to_node t.world x; lists = t.lists; entered = t.entered })
kept_node t x s h = record { sound = kept_reached t x.to x.from x.message s h; grows = reached_grows t x.to x.from x.message s h }

pub kept_arrival : (t : Traced) (x : Option Arrival) → Told t x → Sound t → Keeps t (arrived_in t x)
kept_arrival t None s h = unchanged t h
kept_arrival t (Some x) s h = go (x.to == client)
  where
    go : (b : Bool) → Keeps t (record { world = (if b then came_to_client t.world x.message else came_to_node t.world x); lists = t.lists; entered = t.entered })
    go true = arrived_at_client t x s h
    go false = kept_node t x s h

pub told : (t : Traced) (b : ℕ) (p : Posting) → Sound t → WasPosted t p → Told t (arrived b p)
told t b p h w = go (message_of p.bytes) refl
  where
    go : (m : Option Message) → message_of p.bytes ≡ m → Told t (option_map (λ m. record { from = p.from; to = b; message = m }) m)
    go None e = tt
    go (Some m) e = h.sent w.place p m w.stands e

pub told_at : (t : Traced) (b i : ℕ) → Sound t → Told t (option_and_then (arrived b) (posting_at t.world.network i))
told_at t b i h = go (posting_at t.world.network i) refl
  where
    go : (p : Option Posting) → posting_at t.world.network i ≡ p → Told t (option_and_then (arrived b) p)
    go None e = tt
    go (Some p) e = told t b p h (was_posted t i p e)

pub told_cut : (t : Traced) (b size i : ℕ) → Sound t → Told t (option_and_then (arrived_cut b size) (posting_at t.world.network i))
told_cut t b size i h = go (posting_at t.world.network i) refl
  where
    long : (p : Posting) → WasPosted t p → (c : Bool) → Told t (if c then arrived b p else None)
    long p w true = told t b p h w
    long p w false = tt

    go : (p : Option Posting) → posting_at t.world.network i ≡ p → Told t (option_and_then (arrived_cut b size) p)
    go None e = tt
    go (Some p) e = long p (was_posted t i p e) _

-- ---- a message is sent

pub more : {A : Type 0} (xs : List A) (x y : A) (i : ℕ) → slice_get (xs ++ x ∷ []) i ≡ Some y → (slice_get xs i ≡ Some y) ⊎ (y ≡ x)
more [] x y zero e = inr (grind arith)
more [] x y (suc i) e = absurd (grind arith)
more (z ∷ xs) x y zero e = inl e
more (z ∷ xs) x y (suc i) e = more xs x y i e

stays : {A : Type 0} (xs : List A) (x y : A) (i : ℕ) → slice_get xs i ≡ Some y → slice_get (xs ++ x ∷ []) i ≡ Some y
stays [] x y i e = absurd (grind arith)
stays (z ∷ xs) x y zero e = e
stays (z ∷ xs) x y (suc i) e = stays xs x y i e

-- the world with one more message under way
abbrev posted_in : Traced → ℕ → Posting → Traced
posted_in t i p = record { world = record t.world { network = posting t.world.network i p }; lists = t.lists; entered = t.entered }

kept_posted : (t : Traced) (i : ℕ) (p : Posting) → SaysIf t p.from (message_of p.bytes) → Sound t → Keeps t (posted_in t i p)
kept_posted t i p s h =
    let u : Traced = posted_in t i p in
    let g : Grows t u = record { promised = λ n. at_most_refl _; lists = λ q ms e. e; sent = λ j q e. stays t.world.network.sent p q j e; entered = λ m q e. e } in
    record {
      sound = record {
        nodes = λ n. node_grows t u g n (facts_of t n) (h.nodes n);
        lists = λ q ms e. listed_grows t u g q ms (h.lists q ms e);
        sent = λ j q m e r. says_grows t u g q.from m (⊎_elim (λ old. h.sent j q m old r) (λ new. fresh q m new r) (more t.world.network.sent p q j e));
        tables = shown_grow t u g t.world.tables h.tables;
      };
      grows = g;
    }
  where
    fresh : (q : Posting) (m : Message) → q ≡ p → message_of q.bytes ≡ Some m → Says t q.from m
    fresh q m e r = subst (λ (x : Posting). Says t x.from m) (sym e) (subst (λ o. SaysIf t p.from o) (subst (λ (x : Posting). message_of x.bytes ≡ Some m) e r) s)

-- the proposal of a message that is sent stands
proposing_agrees : (t : Traced) (n : ℕ) (a : Agreement) (k : ClusterKey) (ms : List Member) (b : Bool) → Agrees t n a
    → k ≡ a.promised → IsBelow a.last k → k.principal ≡ n → t.lists k ≡ Some ms → Agrees t n (if b then a else record a { proposal = Some (proposal_of n k ms) })
proposing_agrees t n a k ms true h promised above own list = h
proposing_agrees t n a k ms false h promised above own list =
    record { ordered = h.ordered; promised = h.promised; last = h.last; proposal = record { key = promised; above = above; own = own; list = list } }

proposing_promised : (a : Agreement) (p : Proposal) (b : Bool) → a.promised ≡ (if b then a else record a { proposal = Some p }).promised
proposing_promised a p true = refl
proposing_promised a p false = refl

proposing_last : (a : Agreement) (p : Proposal) (b : Bool) → a.last ≡ (if b then a else record a { proposal = Some p }).last
proposing_last a p true = refl
proposing_last a p false = refl

kept_proposing : (t : Traced) (n to : ℕ) (k : ClusterKey) (ms : List Member) → Says t n (message.Propose k ms) → Proposes t n k → Sound t → Keeps t (moved t n (sent (facts_of t n) to (message.Propose k ms)))
kept_proposing t n to k ms s ok h =
    let f : Facts = facts_of t n in
    let b : Bool = proposes f.agreement.proposal k in
    let new : Facts = sent f to (message.Propose k ms) in
    let le : KeyAtMost f.agreement.promised new.agreement.promised = at_most_eq (proposing_promised f.agreement (proposal_of f.me k ms) b) in
    let u : Traced = moved t n new in
    let g : Grows t u = moved_grows t n new le in
    let old : NodeKeys u n f = node_grows t u g n f (h.nodes n) in
    record {
      sound = kept_moved t n new le h (record {
        me = old.me;
        agrees = subst (λ (x : ℕ). Agrees u n (if b then f.agreement else record f.agreement { proposal = Some (proposal_of x k ms) })) (sym old.me) (proposing_agrees u n f.agreement k ms b old.agrees ok.promised ok.above s.0 s.1);
        view = subst (λ last. ViewStands u n last f.exchange.view) (proposing_last f.agreement (proposal_of f.me k ms) b) old.view;
        hears = old.hears;
        outs = old.outs;
        rows = old.rows;
        stamps = old.stamps;
        finished = old.finished;
      });
      grows = g;
    }

outs_sending : (t : Traced) (to : ℕ) (b : Batch) (xs : Targets) → IsPromisedKey t b.key → Outs t xs → Outs t (batches.sending xs to b)
outs_sending t to b [] k h = tt
outs_sending t to b (x ∷ xs) k h = (go (x.node == to), outs_sending t to b xs k h.1)
  where
    go : (c : Bool) → OutKnown t (changed_if (λ y. record y { out = Some b; batches = b.number }) x c).out
    go true = k
    go false = h.0

pub outs_new : (t : Traced) (f : Facts) (ns : List ℕ) → Outs t (map (target_for f) ns)
outs_new t f [] = tt
outs_new t f (n ∷ ns) = (tt, outs_new t f ns)

kept_sent_by : (t : Traced) (a b : ℕ) (m : Message) → Says t a m → MaySendKey t a m → Sound t → Keeps t (moved t a (sent (facts_of t a) b m))
kept_sent_by t a b (message.Propose k ms) s ok h = kept_proposing t a b k ms s ok h
kept_sent_by t a b (message.Batch x) s ok h =
    let f : Facts = facts_of t a in
    let new : Facts = sent f b (message.Batch x) in
    let u : Traced = moved t a new in
    let g : Grows t u = moved_grows t a new (at_most_refl _) in
    let old : NodeKeys u a f = node_grows t u g a f (h.nodes a) in
    record {
      sound = kept_moved t a new (at_most_refl _) h (record { me = old.me; agrees = old.agrees; view = old.view; hears = old.hears; outs = outs_sending u b x f.batches (known_grows t u g x.key s) old.outs; rows = old.rows; stamps = old.stamps; finished = old.finished });
      grows = g;
    }
kept_sent_by t a b m s ok h =
    let same : SameKeys t (facts_of t a) (facts_of t a) = record { me = refl; agreement = refl; view = refl; heard = refl; exchanged = refl; outs = λ u g h. h; rows = λ u g h. h; stamps = λ u g h. h } in
    record { sound = kept_same t a _ same h; grows = same_moved_grows t a _ same }

may_posted : (t : Traced) (i : ℕ) (p : Posting) (a : ℕ) (m : Message) → MaySendKey t a m → MaySendKey (posted_in t i p) a m
may_posted t i p a (message.Propose k ms) h = record { promised = h.promised; above = h.above }
may_posted t i p a _ h = tt

kept_sent : (t : Traced) (i a b : ℕ) (bytes : List ℕ) → SaysIf t a (message_of bytes) → MaySendKeyIf t a (message_of bytes) → Sound t → Keeps t (record { world = posted_by t.world i (record { from = a; to = b; bytes = bytes }); lists = t.lists; entered = t.entered })
kept_sent t i a b bytes s ok h = go (message_of bytes) s ok
  where
    p : Posting
    p = record { from = a; to = b; bytes = bytes }

    v : Traced
    v = posted_in t i p

    first : Keeps t v
    first = kept_posted t i p s h

    second : (m : Message) → Says t a m → MaySendKey t a m → Keeps v (moved v a (sent (facts_of v a) b m))
    second m s ok = kept_sent_by v a b m (says_grows t v first.grows a m s) (may_posted t i p a m ok) first.sound

    go : (o : Option Message) → SaysIf t a o → MaySendKeyIf t a o → Keeps t (record { world = sent_by v.world a b o; lists = t.lists; entered = t.entered })
    go None s ok = first
    go (Some m) s ok = record { sound = (second m s ok).sound; grows = grows_on t v _ first.grows (second m s ok).grows }

-- ---- promises

kept_promise : (t : Traced) (n : ℕ) (k : ClusterKey) → MayPromise t n k → Sound t → Keeps t (promised_in t n k (k.principal == n))
kept_promise t n k ok h = go (k.principal == n) refl
  where
    go : (b : Bool) → (k.principal == n) ≡ b → Keeps t (promised_in t n k b)
    go true e = record {
      sound = kept_own_promise t n k h ok.above (promise_own t n k h ok (num_same k.principal n e));
      grows = promise_grows t n k true h ok.above (λ _. num_same k.principal n e);
    }
    go false e = record {
      sound = kept_other_promise t n k h ok.above (promise_known t n k h ok (num_differ k.principal n e));
      grows = promise_grows t n k false h ok.above (λ s. absurd (never s refl));
    }

-- ---- all lines

-- what stands beside the facts, the messages and the tables doesn't count
beside : (t u : Traced) → t.world.facts ≡ u.world.facts → t.lists ≡ u.lists → t.world.network.sent ≡ u.world.network.sent → t.world.tables ≡ u.world.tables → t.entered ≡ u.entered → Sound t → Keeps t u
beside t u facts lists sent tables entered h =
    let g : Grows t u = record {
      promised = λ n. at_most_eq (ap (λ fs. (fs n).agreement.promised) facts);
      lists = λ k ms e. subst (λ ls. ls k ≡ Some ms) lists e;
      sent = λ i p e. subst (λ xs. slice_get xs i ≡ Some p) sent e;
      entered = λ n k e. subst (λ es. es n k ≡ true) entered e;
    } in
    record {
      sound = record {
        nodes = λ n. subst (λ fs. NodeKeys u n (fs n)) facts (node_grows t u g n (facts_of t n) (h.nodes n));
        lists = λ k ms e. listed_grows t u g k ms (h.lists k ms (subst (λ ls. ls k ≡ Some ms) (sym lists) e));
        sent = λ i p m e r. says_grows t u g p.from m (h.sent i p m (subst (λ xs. slice_get xs i ≡ Some p) (sym sent) e) r);
        tables = subst (λ xs. Shown u xs) tables (shown_grow t u g t.world.tables h.tables);
      };
      grows = g;
    }

-- nor do the requests
with_requests : (t u : Traced) (kept : Requests) → Keeps t u → Keeps t (record { world = record u.world { requests = kept }; lists = u.lists; entered = u.entered })
with_requests t u kept h =
    let v : Traced = record { world = record u.world { requests = kept }; lists = u.lists; entered = u.entered } in
    let more : Keeps u v = beside u v refl refl refl refl refl h.sound in
    record { sound = more.sound; grows = grows_on t u v h.grows more.grows }

quiet : (t : Traced) (n : ℕ) (new : Facts) → SameKeys t (facts_of t n) new → Sound t → Keeps t (moved t n new)
quiet t n new s h = record { sound = kept_same t n new s h; grows = same_moved_grows t n new s }

-- the end of an exchange
kept_exchanged : (t : Traced) (n : ℕ) (k : ClusterKey) → MayFinishExchange t n k → Sound t → Keeps t (moved t n (exchanged (facts_of t n) k))
kept_exchanged t n k ok h =
    let f : Facts = facts_of t n in
    let new : Facts = exchanged f k in
    let u : Traced = moved t n new in
    let g : Grows t u = moved_grows t n new (at_most_refl _) in
    let old : NodeKeys u n f = node_grows t u g n f (h.nodes n) in
    record {
      sound = kept_moved t n new (at_most_refl _) h (record {
        me = old.me;
        agrees = old.agrees;
        view = old.view;
        hears = old.hears;
        outs = outs_new u f (others f);
        rows = old.rows;
        stamps = stamped_known u f k _ partition_count 0 (known_grows t u g k ok.visited.known) old.stamps;
        finished = λ e. subst (λ q. t.entered n q ≡ true) ok.view ok.visited.entered;
      });
      grows = g;
    }

pub kept_line : (t : Traced) (l : Line) → OkLine t l → Sound t → Keeps t (traced_after t (Writes l))
kept_line t (line.Deliver i a b) ok h = kept_arrival t _ (told_at t b i h) h
kept_line t (line.Repeat i a b) ok h = kept_arrival t _ (told_at t b i h) h
kept_line t (line.Cut i a b size) ok h = kept_arrival t _ (told_cut t b size i h) h
kept_line t (line.Sent i a b bytes) ok h = kept_sent t i a b bytes ok.0 ok.1 h
kept_line t (line.Tick n) ok h = record { sound = kept_tick t n h; grows = moved_grows t n _ (at_most_refl _) }
kept_line t (line.Stop n) ok h = with_requests t _ _ (record { sound = kept_stop t n h; grows = moved_grows t n _ (at_most_refl _) })
kept_line t (line.Promise n k) ok h = kept_promise t n k ok h
kept_line t (line.Enter n k ms) ok h = with_requests t _ _ (record { sound = kept_enter t n k ms h (entered_as t n k ms h ok); grows = enter_grows t n k ms })
kept_line t (line.Start n) ok h = quiet t n _ (record { me = refl; agreement = refl; view = refl; heard = refl; exchanged = refl; outs = λ u g h. h; rows = λ u g h. h; stamps = λ u g h. h }) h
kept_line t (line.Quiesce n) ok h = quiet t n _ (record { me = refl; agreement = refl; view = refl; heard = refl; exchanged = refl; outs = λ u g h. h; rows = λ u g h. h; stamps = λ u g h. h }) h
kept_line t (line.Unquiesce n) ok h = quiet t n _ (record { me = refl; agreement = refl; view = refl; heard = refl; exchanged = refl; outs = λ u g h. h; rows = λ u g h. h; stamps = λ u g h. h }) h
kept_line t (line.Exchanged n k) ok h = kept_exchanged t n k ok h
kept_line t (line.Opened n k number d a) ok h = with_requests t _ _ (quiet t n _ (record { me = refl; agreement = refl; view = refl; heard = refl; exchanged = refl; outs = λ u g h. h; rows = λ u g h. h; stamps = λ u g h. h }) h)
kept_line t (line.Value n k number d v) ok h = with_requests t _ _ (quiet t n _ (record { me = refl; agreement = refl; view = refl; heard = refl; exchanged = refl; outs = λ u g h. h; rows = λ u g h. h; stamps = λ u g h. h }) h)
kept_line t (line.Apply n k number d v) ok h = quiet t n _ (record { me = refl; agreement = refl; view = refl; heard = refl; exchanged = refl; outs = λ u g h. h; rows = λ u g h. h; stamps = λ u g h. stamps_changed u (storing (facts_of t n).store d v) (partition_of d) _ (λ x i. recounted_known u k _ (spoiled k x) (known_grows t u g k ok.known) (spoiled_known u k x i)) h }) h
kept_line t (line.Done n k number) ok h = with_requests t _ _ (quiet t n _ (record { me = refl; agreement = refl; view = refl; heard = refl; exchanged = refl; outs = λ u g h. h; rows = λ u g h. h; stamps = λ u g h. h }) h)
kept_line t (line.Aborted n k number) ok h = quiet t n _ (record { me = refl; agreement = refl; view = refl; heard = refl; exchanged = refl; outs = λ u g h. h; rows = λ u g h. h; stamps = λ u g h. h }) h
kept_line t (line.Doubt n k number) ok h = quiet t n _ (record { me = refl; agreement = refl; view = refl; heard = refl; exchanged = refl; outs = λ u g h. h; rows = λ u g h. h; stamps = λ u g h. h }) h
kept_line t (line.Merge n k d v) ok h = quiet t n _ (record { me = refl; agreement = refl; view = refl; heard = refl; exchanged = refl; outs = λ u g h. h; rows = λ u g h. h; stamps = λ u g h. stamps_changed u (storing (facts_of t n).store d v) (partition_of d) _ (λ x i. spoiled_known u k x i) h }) h
kept_line t (line.Handed n k p) ok h = quiet t n _ (record { me = refl; agreement = refl; view = refl; heard = refl; exchanged = refl; outs = λ u g h. h; rows = λ u g h. h; stamps = λ u g h. h }) h
kept_line t (line.Settled n k p) ok h = quiet t n _ (record { me = refl; agreement = refl; view = refl; heard = refl; exchanged = refl; outs = λ u g h. h; rows = λ u g h. h; stamps = λ u g h. h }) h
kept_line t (line.Learn n k p) ok h = quiet t n _ (record { me = refl; agreement = refl; view = refl; heard = refl; exchanged = refl; outs = λ u g h. h; rows = λ u g h. h; stamps = λ u g h. stamps_with u (facts_of t n).store.stamps p _ (known_grows t u g k ok.known) h }) h
kept_line t (line.Drop n k p) ok h = quiet t n _ (record { me = refl; agreement = refl; view = refl; heard = refl; exchanged = refl; outs = λ u g h. h; rows = λ u g h. h; stamps = λ u g h. stamps_without u (facts_of t n).store.stamps p h }) h
kept_line t _ ok h = beside t _ refl refl refl refl refl h

pub kept_begun : (t : Traced) (e : Event) → Sound t → Keeps t (traced_after t (Begins e))
kept_begun t (event.Deliver i) h = beside t _ refl refl refl refl refl h
kept_begun t (event.Lose i) h = beside t _ refl refl refl refl refl h
kept_begun t (event.Cut i size) h = beside t _ refl refl refl refl refl h
kept_begun t _ h = beside t _ refl refl refl refl refl h

pub kept : (t : Traced) (m : Mark) → OkMark t m → Sound t → Keeps t (traced_after t m)
kept t (Begins e) ok h = kept_begun t e h
kept t (Writes l) ok h = kept_line t l ok h

-- ---- licensed marks

pub kept_all : (t : Traced) (ms : List Mark) → LicensedMarks t ms → Sound t
    → Keeps t (traced_after_all t ms)
kept_all t [] ok h = unchanged t h
kept_all t (m ∷ ms) ok h =
    let first : Keeps t (traced_after t m) = kept t m ok.0 h in
    let others : Keeps (traced_after t m) (traced_after_all (traced_after t m) ms) = kept_all (traced_after t m) ms ok.1 first.sound in
    record { sound = others.sound; grows = grows_on t _ _ first.grows others.grows }

-- at each place of licensed marks
pub kept_at : (t : Traced) (ms : List Mark) (i : ℕ) → LicensedMarks t ms → Sound t → Keeps t (traced_after_all t (take i ms))
kept_at t [] zero ok h = unchanged t h
kept_at t [] (suc i) ok h = unchanged t h
kept_at t (m ∷ ms) zero ok h = unchanged t h
kept_at t (m ∷ ms) (suc i) ok h =
    let first : Keeps t (traced_after t m) = kept t m ok.0 h in
    let others : Keeps (traced_after t m) (traced_after_all (traced_after t m) (take i ms)) = kept_at (traced_after t m) ms i ok.1 first.sound in
    record { sound = others.sound; grows = grows_on t _ _ first.grows others.grows }

-- from one place to a later one
pub grows_from : (t : Traced) (ms : List Mark) (i j : ℕ) → LicensedMarks t ms → Sound t → i ≤ j → Grows (traced_after_all t (take i ms)) (traced_after_all t (take j ms))
grows_from t [] zero zero ok h le = same_grows t
grows_from t [] zero (suc j) ok h le = same_grows t
grows_from t [] (suc i) zero ok h le = same_grows t
grows_from t [] (suc i) (suc j) ok h le = same_grows t
grows_from t (m ∷ ms) zero j ok h le = (kept_at t (m ∷ ms) j ok h).grows
grows_from t (m ∷ ms) (suc i) zero ok h le = absurd (omega arith)
grows_from t (m ∷ ms) (suc i) (suc j) ok h le = grows_from (traced_after t m) ms i j ok.1 (kept t m ok.0 h).sound (omega arith)

pub licensed_at : (t : Traced) (ms : List Mark) (i : ℕ) (m : Mark) → LicensedMarks t ms → slice_get ms i ≡ Some m → OkMark (traced_after_all t (take i ms)) m
licensed_at t [] i m ok e = absurd (grind arith)
licensed_at t (x ∷ ms) zero m ok e = subst (OkMark t) (grind arith) ok.0
licensed_at t (x ∷ ms) (suc i) m ok e = licensed_at (traced_after t x) ms i m ok.1 e

pub after_all-append : (t : Traced) (a b : List Mark) → traced_after_all t (a ++ b) ≡ traced_after_all (traced_after_all t a) b
after_all-append t [] b = refl
after_all-append t (m ∷ a) b = after_all-append (traced_after t m) a b

pub licensed_append : (t : Traced) (a b : List Mark) → LicensedMarks t a → LicensedMarks (traced_after_all t a) b → LicensedMarks t (a ++ b)
licensed_append t [] b p q = q
licensed_append t (m ∷ a) b p q = (p.0, licensed_append (traced_after t m) a b p.1 q)
