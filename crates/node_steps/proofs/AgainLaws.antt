-- What open transactions and batches send again, one after another.
use Rattle.std.proofs.Common.{◌≡◌, ◌<◌, ◌==◌, ℕ, suc, Bool, true, false, List, [], ◌∷◌, ◌++◌, Option, Some, None, find, get_or, length, map, flat_map, append_assoc, append-nil, refl, sym, ap, ap₂, subst, ◌∙◌, arith}
use Rattle.std.specs.Prelude.{All, AllPairs, IsSome, filter_map, option_map}
use Rattle.std.specs.List.{cons_option}
use Rattle.std.specs.Option.{ForSome}
use Rattle.std.proofs.lemmas.List.{get_or-map, length-map}
use Rattle.std.proofs.lemmas.List.Elements.{All-cons, All-from_get_or, All-get_or, All-head, All-map, All-nil, All-tail}
use Rattle.cluster_types.specs.declared.cluster_key.ClusterKey.{ClusterKey}
use Rattle.dup_resolve.specs.declared.txn.Txn.{Txn}
use Rattle.emigrate.specs.Going.{AreHeld}
use Rattle.wire_messages.specs.declared.message.Batch.{Batch}
use Rattle.wire_messages.specs.declared.message.Message.{Message}
use Rattle.wire_messages.specs.declared.message.Message.TheVariants as message
use Rattle.wire_messages.specs.Keys.{IsKeyField}
use Rattle.wire_messages.specs.Proper.{IsBatch}
use Rattle.wire_messages.specs.Spelling.{spelling}
use Rattle.partition_lists.proofs.InOrderLaws.{equal, unequal}
use Rattle.node_rules.specs.Batches.{Target, Targets, next_batch}
use Rattle.node_rules.specs.ByParts.{batches_due}
use Rattle.node_rules.specs.Copies.{Content}
use Rattle.node_rules.specs.Effects.{sends_only}
use Rattle.node_rules.specs.Exchange as exchange
use Rattle.node_rules.specs.Exchange.{Exchange}
use Rattle.node_rules.specs.Facts.{Facts, view_key}
use Rattle.node_rules.specs.Tick as tick
use Rattle.node_rules.specs.Tick.{batch_to, sends_again}
use Rattle.node_rules.specs.Transactions as rules
use Rattle.node_rules.specs.Transactions.{Transaction}
use Rattle.node_view.specs.Transactions.{kept_of}
use Rattle.node_steps.specs.declared.effects.Effects.{Effects}
use Rattle.node_view.specs.Fits.{AreNext, IsReadyToSend}
use Rattle.node_view.specs.Views.{IsInView, IsViewOf, Viewed, viewed_key}
use Rattle.node_steps.specs.Counts.{HaveNumbers}
use Rattle.node_steps.specs.Ranges.{HasRanges}
use Rattle.node_steps.specs.Spelled.{then_effects, spelled_sends, with_sends}
use Rattle.node_steps.specs.Viewing.{IsAsKept}
use Rattle.node_steps.proofs.SpelledLaws.{told_sends, told_twice}
use Rattle.node_steps.proofs.StepRanges.{due_batches_fit}
use Rattle.node_steps.proofs.ViewLaws.{exchange_is, kept_as}

-- ---- open transactions

-- what is sent again for a transaction, where there is one
abbrev pub sends_of : Facts → Option Transaction → List (ℕ × Message)
sends_of f None = []
sends_of f (Some t) = sends_again f t t.applied

-- what is sent again for the transactions of these numbers
abbrev pub sends_for : Facts → List Txn → List (ℕ × Message)
sends_for f xs = flat_map (λ x. sends_of f (rules.transaction f.transactions x.id)) xs

-- the transaction of the number is the one that is kept so
pub record IsFound (f : Facts) (x : Txn) : Type 0 where
  pub open_one : IsSome (rules.transaction f.transactions x.id)
  pub same : ForSome (rules.transaction f.transactions x.id) (IsAsKept x)

-- where numbers rise, each finds its transaction
found_each : (xs : List Transaction) → AllPairs (λ t u. t.number < u.number) xs → All (λ t. find (λ u. u.number == t.number) xs ≡ Some t) xs
found_each [] rise = All-nil (λ (t : Transaction). find (λ u. u.number == t.number) [] ≡ Some t)
found_each (x ∷ xs) rise =
    All-cons (λ (t : Transaction). find (λ u. u.number == t.number) (x ∷ xs) ≡ Some t) x xs
    (rw (equal x.number x.number refl) refl)
    (All-from_get_or (λ (t : Transaction). find (λ u. u.number == t.number) (x ∷ xs) ≡ Some t) xs x
    (later (found_each xs (λ i j d before inside. rise (suc i) (suc j) d (omega (arith, before)) (omega (arith, inside))))))
  where
    later : All (λ t. find (λ u. u.number == t.number) xs ≡ Some t) xs → (k : ℕ) → k < length xs → find (λ u. u.number == (get_or xs k x).number) (x ∷ xs) ≡ Some (get_or xs k x)
    later rest k within =
        let apart : (x.number == (get_or xs k x).number) ≡ false =
        unequal x.number (get_or xs k x).number (λ e. omega (arith, e, rise 0 (suc k) x (omega arith) (omega (arith, within)))) in
        rw apart (All-get_or (λ (t : Transaction). find (λ u. u.number == t.number) xs ≡ Some t) xs k x within rest)

-- numbers rise as they are kept
kept_rise : (xs : List Transaction) → AllPairs (λ x y. x.id < y.id) (map kept_of xs) → AllPairs (λ t u. t.number < u.number) xs
kept_rise xs rise i j d before within =
    let first : (get_or (map kept_of xs) i (kept_of d)).id ≡ (get_or xs i d).number = ap (λ (x : Txn). x.id) (get_or-map kept_of xs i d (kept_of d) (omega (arith, before, within))) in
    let second : (get_or (map kept_of xs) j (kept_of d)).id ≡ (get_or xs j d).number = ap (λ (x : Txn). x.id) (get_or-map kept_of xs j d (kept_of d) within) in
    let whole : j < length (map kept_of xs) = rw (length-map xs kept_of) within in
    omega (arith, first, second, rise i j (kept_of d) before whole)

is_found : (f : Facts) (t : Transaction) → rules.transaction f.transactions t.number ≡ Some t → IsFound f (kept_of t)
is_found f t e = record {
  open_one = rw e refl;
  same = λ u i. let is : t ≡ u = cc in subst (λ (v : Transaction). IsAsKept (kept_of t) v) is (kept_as t);
}

-- what is kept of open transactions finds them
pub all_found : (f : Facts) → AllPairs (λ x y. x.id < y.id) (map kept_of f.transactions.running) → All (IsFound f) (map kept_of f.transactions.running)
all_found f rise =
    let xs : List Transaction = f.transactions.running in
    All-map (IsFound f) kept_of xs
    (λ k d within. is_found f (get_or xs k d)
    (All-get_or (λ (t : Transaction). find (λ u. u.number == t.number) xs ≡ Some t) xs k d within (found_each xs (kept_rise xs rise))))

for_each : (f : Facts) (xs : List Transaction) → All (λ t. rules.transaction f.transactions t.number ≡ Some t) xs → sends_for f (map kept_of xs) ≡ flat_map (λ t. sends_again f t t.applied) xs
for_each f [] found = refl
for_each f (x ∷ xs) found =
    ap₂ (λ (a b : List (ℕ × Message)). a ++ b)
    (ap (sends_of f) (All-head (λ (t : Transaction). rules.transaction f.transactions t.number ≡ Some t) x xs found))
    (for_each f xs (All-tail (λ (t : Transaction). rules.transaction f.transactions t.number ≡ Some t) x xs found))

-- so all of them send what is due
pub sent_again : (f : Facts) → AllPairs (λ x y. x.id < y.id) (map kept_of f.transactions.running) → sends_for f (map kept_of f.transactions.running) ≡ flat_map (λ t. sends_again f t t.applied) f.transactions.running
sent_again f rise = for_each f f.transactions.running (found_each f.transactions.running (kept_rise f.transactions.running rise))

-- the first one is told before the others
pub first_told : (f : Facts) (out told : Effects) (x : Txn) (xs : List Txn) → IsSome (rules.transaction f.transactions x.id)
    → ForSome (rules.transaction f.transactions x.id) (λ t. told ≡ then_effects out (sends_only (sends_again f t t.applied)))
    → then_effects told (sends_only (sends_for f xs)) ≡ then_effects out (sends_only (sends_for f (x ∷ xs)))
first_told f out told x xs some here = go (rules.transaction f.transactions x.id) some here
  where
    go : (o : Option Transaction) → IsSome o → ForSome o (λ t. told ≡ then_effects out (sends_only (sends_again f t t.applied)))
        → then_effects told (sends_only (sends_for f xs)) ≡ then_effects out (sends_only (sends_of f o ++ sends_for f xs))
    go None none told_so = cc
    go (Some t) is told_so =
        ap (λ (e : Effects). then_effects e (sends_only (sends_for f xs))) (told_so t refl)
        ∙ told_twice out (sends_only (sends_again f t t.applied)) (sends_only (sends_for f xs))

-- ---- what has a spelling

-- what holds of each holds of the one that is found
pub found_has : {X : Type 0} (P : X → Type 0) (p : X → Bool) (xs : List X) → All P xs → ForSome (find p xs) P
found_has P p [] h = λ x e. cc
found_has P p (x ∷ xs) h = go (p x) refl (found_has P p xs (All-tail P x xs h))
  where
    go : (b : Bool) → p x ≡ b → ForSome (find p xs) P → ForSome (find p (x ∷ xs)) P
    go true e later = rw e (λ y i. let is : x ≡ y = cc in subst P is (All-head P x xs h))
    go false e later = rw e later

pub key_in_view : (o : Option exchange.View) → IsSome o → ForSome o (λ w. IsKeyField w.key) → IsKeyField (exchange.exchange_key o)
key_in_view None none h = cc
key_in_view (Some w) is h = h w refl

-- ---- batches

-- a batch that is due, as it is sent
abbrev pub batch_sent : ℕ × Batch → ℕ × Message
batch_sent b = (b.0, message.Batch b.1)

pub batches_sent : (key : ClusterKey) (content : Content) (ts : Targets) → map batch_sent (batches_due key content ts) ≡ filter_map (λ t. batch_to t.node (next_batch key content t)) ts
batches_sent key content [] = refl
batches_sent key content (t ∷ ts) = go (next_batch key content t) (batches_sent key content ts)
  where
    go : (o : Option Batch) → map batch_sent (batches_due key content ts) ≡ filter_map (λ (u : Target). batch_to u.node (next_batch key content u)) ts
        → map batch_sent (cons_option (option_map (λ (b : Batch). (t.node, b)) o) (batches_due key content ts))
        ≡ cons_option (batch_to t.node o) (filter_map (λ (u : Target). batch_to u.node (next_batch key content u)) ts)
    go None rest = rest
    go (Some b) rest = ap (λ (ms : List (ℕ × Message)). (t.node, message.Batch b) ∷ ms) rest

-- the bytes of it
abbrev pub batch_spelled : ℕ × Batch → ℕ × List ℕ
batch_spelled b = (b.0, spelling (message.Batch b.1))

all_spelled : (bs : List (ℕ × Batch)) → map batch_spelled bs ≡ spelled_sends (map batch_sent bs)
all_spelled [] = refl
all_spelled (b ∷ bs) = ap (λ (ss : List (ℕ × List ℕ)). batch_spelled b ∷ ss) (all_spelled bs)

-- the batches that are due, as they are told
pub batches_told : (out : Effects) (f : Facts) (bs : List (ℕ × Batch)) → bs ≡ batches_due (view_key f) f.store.content f.batches → with_sends out (map batch_spelled bs) ≡ then_effects out (tick.batches f)
batches_told out f bs due =
    told_sends out (map batch_spelled bs) (filter_map (λ (t : Target). batch_to t.node (next_batch (view_key f) f.store.content t)) f.batches)
    (all_spelled bs ∙ ap (λ (cs : List (ℕ × Batch)). spelled_sends (map batch_sent cs)) due ∙ ap spelled_sends (batches_sent (view_key f) f.store.content f.batches))

-- the first one is told before the others, and handed back before them
pub first_sent : (out told : Effects) (b : ℕ × Batch) (bs : List (ℕ × Batch)) → told ≡ with_sends out (batch_spelled b ∷ []) → with_sends told (map batch_spelled bs) ≡ with_sends out (map batch_spelled (b ∷ bs))
first_sent out told b bs e =
    ap (λ (t : Effects). with_sends t (map batch_spelled bs)) e
    ∙ ap (λ (ss : List (ℕ × List ℕ)). record out { sends = ss }) (append_assoc out.sends (batch_spelled b ∷ []) (map batch_spelled bs))

pub sends_nothing : (out : Effects) → with_sends out [] ≡ out
sends_nothing out = ap (λ (ss : List (ℕ × List ℕ)). record out { sends = ss }) (append-nil out.sends)

-- each that is due has a spelling
pub batches_fit : (f : Facts) (v : Viewed) → IsViewOf f v → IsSome v.exchange.view → HaveNumbers f → HasRanges f → All (λ b. IsBatch b.1) (batches_due (viewed_key v) f.store.content v.batches)
batches_fit f v own in_one numbers ranges =
    let x : v.exchange ≡ f.exchange = exchange_is f v own.viewed in
    let ts : v.batches ≡ f.batches = ap (λ (g : Facts). g.batches) own.viewed.view in
    subst (λ (y : Exchange). All (λ b. IsBatch b.1) (batches_due (exchange.exchange_key y.view) f.store.content v.batches)) (sym x)
    (subst (λ (us : Targets). All (λ b. IsBatch b.1) (batches_due (view_key f) f.store.content us)) (sym ts)
    (due_batches_fit f (subst (λ (y : Exchange). IsSome y.view) x in_one) (subst (λ (us : Targets). AreHeld f.store.content us) ts own.pending) numbers ranges))

-- what is due of the view is due of the facts
pub due_is : (f : Facts) (v : Viewed) → IsInView f v → batches_due (viewed_key v) f.store.content v.batches ≡ batches_due (view_key f) f.store.content f.batches
due_is f v h = ap (λ (g : Facts). batches_due (view_key g) f.store.content g.batches) h.view

-- and may be sent by a node of these facts
pub next_is : (f : Facts) (v : Viewed) (bs : List (ℕ × Batch)) → IsInView f v → IsReadyToSend v bs → AreNext f.exchange.exchanged (view_key f) f.batches bs
next_is f v bs h ready = subst (λ (g : Facts). AreNext g.exchange.exchanged (view_key g) g.batches bs) h.view ready

pub none_next : (exchanged : Bool) (key : ClusterKey) (ts : Targets) (bs : List (ℕ × Batch)) → bs ≡ [] → AreNext exchanged key ts bs
none_next exchanged key ts bs none = subst (λ (cs : List (ℕ × Batch)). AreNext exchanged key ts cs) (sym none) (record {
  finished = λ some. absurd (some refl);
  apart = λ i j d before within. absurd (omega (arith, within));
  next = λ i d within. absurd (omega (arith, within));
})
