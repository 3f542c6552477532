-- What a tick sends: rows, what transactions wait for, batches, and how far the partitions have come.
use Rattle.std.proofs.Common.{◌≡◌, ℕ, zero, suc, ◌==◌, Bool, true, false, List, [], length, ◌∷◌, ◌++◌, take, Option, Some, None, refl, sym, ap, ap₂, ◌∙◌, subst, inl, inr}
use Rattle.std.specs.Prelude.{filter, filter_map, flat_map, option_map, unwrap_or, slice_get, bytes_eq, if◌then◌else◌}
use Rattle.std.specs.List.{cons_option}
use Rattle.std.specs.FinMap as finite
use Rattle.conflict_order.specs.declared.policy.Policy.{Policy}
use Rattle.conflict_order.specs.declared.version.Version.{Version}
use Rattle.cluster_types.specs.declared.cluster_key.ClusterKey.{ClusterKey}
use Rattle.cluster_types.specs.Partitions.{partition_count, partition_of}
use Rattle.partition_lists.specs.Lists.{list, replicas}
use Rattle.wire_messages.specs.declared.message.Batch.{Batch}
use Rattle.wire_messages.specs.declared.message.Message.{Message}
use Rattle.wire_messages.specs.declared.message.Message.TheVariants as message
use Rattle.wire_messages.specs.Decoding.{message_of}
use Rattle.wire_messages.specs.Spelling.{spelling}
use Rattle.node_rules.specs.Agreement as agreement
use Rattle.node_rules.specs.Batches.{Target, Targets, target, batch_limit, records_of, fresh_batch, batch_after, next_batch}
use Rattle.node_rules.specs.Copies.{Content, Row}
use Rattle.node_rules.specs.Effects.{to_each, nothing, sends_only}
use Rattle.node_rules.specs.Exchange.{View, Exchange, members_of, exchange_key, first_missing}
use Rattle.node_rules.specs.Facts.{Facts, view_key, list_at}
use Rattle.node_rules.specs.Map.{lacks, row_of_member}
use Rattle.node_rules.specs.Resolving.{repl}
use Rattle.node_rules.specs.Standing.{others}
use Rattle.node_rules.specs.Tables.{contains}
use Rattle.node_rules.specs.Tick.{state, own_row_in, sends_again, batch_to, rows, transactions, batches, progress_message}
use Rattle.node_rules.specs.Transactions.{Transaction, Transactions, Write, transaction}
use Rattle.node_rules.specs.declared.member_row.MemberRow.{MemberRow}
use Rattle.cluster_laws.specs.Licences.{IsAmong}
use Rattle.cluster_laws.proofs.At.{number_same, number_here, digests, differ, some_same, no_some}
use Rattle.run_laws.specs.Chronicle.{IsRowOf}
use Rattle.run_laws.specs.Due.{SettledOnly}
use Rattle.run_laws.specs.Fronts.{Front, facts_at}
use Rattle.run_laws.specs.LineOk.{StandsInView, BatchOk}
use Rattle.run_laws.specs.LineDue.{SendDue, LawOf}
use Rattle.run_laws.specs.Steps.{Rests, Ended}
use Rattle.run_laws.specs.Tied.{Each, Among, key_in}
use Rattle.run_laws.proofs.CopySteps.{own_row_is}
use Rattle.run_laws.proofs.NodeSteps.{Now, viewed_key}
use Rattle.run_laws.specs.Spelled.{AreReadInRange, is_ranged}
use Rattle.wire_messages.specs.Keys.{IsKeyField}
use Rattle.run_laws.proofs.Reading.{ReadsWell, reads_itself}
use Rattle.run_laws.proofs.Settling.{any_among, taken_among}
use Rattle.run_laws.proofs.Softly.{is_told, is_batch, Apart, EachSoftly}
use Rattle.run_laws.proofs.ViewSteps.{progress_due, progress_reads}
use Rattle.run_laws.proofs.Words.{or_left, or_right}

-- the front behind a tick's lines: the facts before settling and behind it
pub record Behind (by : Policy) (factor : ℕ) (z : Front) (n : ℕ) (g i : Facts) : Type 0 where
  pub is : facts_at z n ≡ i
  pub me : i.me ≡ n
  pub only : SettledOnly g i
  pub law : LawOf by factor i
  pub rowed : (v : View) → i.exchange.view ≡ Some v → Each (λ (r : MemberRow). IsRowOf z.chronicle r.node v.key r.row) i.exchange.rows
  pub ended : Ended z
  pub key : (v : View) → i.exchange.view ≡ Some v → IsKeyField (view_key i)
  -- what is pending is held as before
  pub held : (t : Target) → Among g.batches t → (d : List ℕ) → Among t.pending d → finite.get i.store.content d ≡ finite.get g.store.content d

abbrev pub Told : Front → ℕ → List (ℕ × Message) → Type 0
Told z n ss = Each (λ (s : ℕ × Message). (is_told s.1 ≡ true) × ReadsWell s.1 × SendDue z n s.0 s.1) ss

pub told_each : (z : Front) (n : ℕ) (m : Message) (ns : List ℕ) → is_told m ≡ true → ((r : ℕ) → contains ns r ≡ true → SendDue z n r m) → ((is_ranged m ≡ true → message_of (spelling m) ≡ Some m) → ReadsWell m) → AreReadInRange (to_each ns m) → Told z n (to_each ns m)
told_each z n m [] t d w r = tt
told_each z n m (x ∷ ns) t d w r = ((t, w r.0, d x (or_left (x == x) (contains ns x) (number_here x))), told_each z n m ns t (λ q e. d q (or_right (x == q) (contains ns q) e)) w r.1)

stands_at : {by : Policy} {factor : ℕ} {z : Front} {n : ℕ} {g i : Facts} → Behind by factor z n g i → (v : View) → g.exchange.view ≡ Some v → StandsInView z n (view_key g)
stands_at {by} {factor} {z} {n} {g} {i} b v e = record { view = ap (λ (f : Facts). key_in f.exchange.view) b.is ∙ ap (λ (x : Exchange). key_in x.view) b.only.exchange ∙ viewed_key g.exchange.view v e; stays = b.ended.stays n }

-- ---- rows

pub rows_told : {by : Policy} {factor : ℕ} {z : Front} {n : ℕ} {g i : Facts} → Behind by factor z n g i → AreReadInRange (rows g).sends → Told z n (rows g).sends
rows_told {by} {factor} {z} {n} {g} {i} b read = go g.exchange.view refl
  where
    nobody : (f : Facts) → f.exchange.view ≡ None → filter (lacks f.exchange.rows) (others f) ≡ []
    nobody f e = ap (λ (o : Option View). filter (lacks f.exchange.rows) (agreement.others_among f.me (members_of o))) e

    go : (o : Option View) → g.exchange.view ≡ o → Told z n (rows g).sends
    go None e = subst (λ (ns : List ℕ). Told z n (to_each ns (state g true))) (sym (nobody g e)) tt
    go (Some v) e = told_each z n (state g true) _ refl (λ r c. record {
      stands = stands_at b v e;
      row = subst (λ (k : ClusterKey). IsRowOf z.chronicle n k (own_row_in g)) (sym (ap exchange_key e)) (subst (λ (m : ℕ). IsRowOf z.chronicle m v.key (own_row_in g)) b.me
          (subst (λ (row : Row). IsRowOf z.chronicle i.me v.key row) (ap₂ (λ (x : Exchange) (m : ℕ). unwrap_or (row_of_member x.rows m) []) b.only.exchange b.only.me) (own_row_is z i v b.law (view_i v e) (b.rowed v (view_i v e)))));
    }) (λ q. reads_itself _ (q refl)) read
      where
        view_i : (v : View) → g.exchange.view ≡ Some v → i.exchange.view ≡ Some v
        view_i v e = ap (λ (x : Exchange). x.view) b.only.exchange ∙ e

-- ---- transactions

told_append : (z : Front) (n : ℕ) (a b : List (ℕ × Message)) → Told z n a → Told z n b → Told z n (a ++ b)
told_append z n [] b x y = y
told_append z n (s ∷ a) b x y = (x.0, told_append z n a b x.1 y)

pub read_left : (a b : List (ℕ × Message)) → AreReadInRange (a ++ b) → AreReadInRange a
read_left [] b r = tt
read_left (s ∷ a) b r = (r.0, read_left a b r.1)

pub read_right : (a b : List (ℕ × Message)) → AreReadInRange (a ++ b) → AreReadInRange b
read_right [] b r = r
read_right (s ∷ a) b r = read_right a b r.1

one_told : {by : Policy} {factor : ℕ} {z : Front} {n : ℕ} {g i : Facts} → Behind by factor z n g i → (v : View) → g.exchange.view ≡ Some v → (y : Transaction) → Among g.transactions.running y → (o : Option Write) → y.applied ≡ o → AreReadInRange (sends_again g y o) → Told z n (sends_again g y o)
one_told {by} {factor} {z} {n} {g} {i} b v e y a None w read = told_each z n (message.Ask (view_key g) y.number y.digest) y.awaiting refl (λ r c. record {
  stands = stands_at b v e;
  item = y;
  running = ap (λ (f : Facts). transaction f.transactions y.number) b.is ∙ b.law.runs y (subst (λ (ts : Transactions). Among ts.running y) (sym b.only.transactions) a);
  digest = refl;
}) (λ q. reads_itself _ (q refl)) read
one_told {by} {factor} {z} {n} {g} {i} b v e y a (Some w) q read = told_each z n (repl g y w) y.awaiting refl (λ r c. let ok : (contains (replicas (list (members_of i.exchange.view) (partition_of y.digest)) i.factor) r ≡ true) × (r ≡ i.me → ⊥) = b.law.acks y there w q r c in record {
  stands = stands_at b v e;
  item = y;
  running = ap (λ (f : Facts). transaction f.transactions y.number) b.is ∙ b.law.runs y there;
  digest = refl;
  applied = q;
  replica = ap (λ (f : Facts). contains (replicas (list_at f (partition_of y.digest)) f.factor) r) b.is ∙ ok.0;
  other = λ x. ok.1 (x ∙ sym b.me);
}) (λ q. reads_itself _ (q refl)) read
  where
    there : Among i.transactions.running y
    there = subst (λ (ts : Transactions). Among ts.running y) (sym b.only.transactions) a

all_told : {by : Policy} {factor : ℕ} {z : Front} {n : ℕ} {g i : Facts} → Behind by factor z n g i → (v : View) → g.exchange.view ≡ Some v → (ys : List Transaction) → ((y : Transaction) → Among ys y → Among g.transactions.running y)
    → AreReadInRange (flat_map (λ t. sends_again g t t.applied) ys) → Told z n (flat_map (λ t. sends_again g t t.applied) ys)
all_told b v e [] among read = tt
all_told {by} {factor} {z} {n} {g} {i} b v e (y ∷ ys) among read = told_append z n (sends_again g y y.applied) _ (one_told b v e y (among y (inl refl)) y.applied refl (read_left (sends_again g y y.applied) _ read))
    (all_told b v e ys (λ x a. among x (inr a)) (read_right (sends_again g y y.applied) _ read))

pub transactions_told : {by : Policy} {factor : ℕ} {z : Front} {n : ℕ} {g i : Facts} → Behind by factor z n g i → AreReadInRange (transactions g).sends → Told z n (transactions g).sends
transactions_told {by} {factor} {z} {n} {g} {i} b read = go g.exchange.view refl
  where
    rests : Rests g
    rests = let r : Rests i = subst (λ (f : Facts). Rests f) b.is (b.ended.rests n) in record {
      idle = λ e. sym (ap (λ (ts : Transactions). ts.running) b.only.transactions) ∙ r.idle (ap (λ (x : Exchange). x.view) b.only.exchange ∙ e);
      over = λ v e m. ap (λ (x : Exchange). x.exchanged) (sym b.only.exchange) ∙ r.over v (ap (λ (x : Exchange). x.view) b.only.exchange ∙ e) (ap (λ (x : Exchange). first_missing x.rows v.members) b.only.exchange ∙ m);
    }

    go : (o : Option View) → g.exchange.view ≡ o → Told z n (transactions g).sends
    go None e = subst (λ (ys : List Transaction). Told z n (flat_map (λ t. sends_again g t t.applied) ys)) (sym (rests.idle e)) tt
    go (Some v) e = all_told b v e g.transactions.running (λ y a. a) read

-- ---- batches

record Recorded (c : Content) (ds : List (List ℕ)) (d : List ℕ) (v : Version) : Type 0 where
  there : Among ds d
  held : finite.get c d ≡ Some v

recorded : (c : Content) (ds : List (List ℕ)) (d : List ℕ) (v : Version) → IsAmong (records_of c ds) d v → Recorded c ds d v
recorded c [] d v a = no_some (sym (none a.place) ∙ a.here)
  where
    none : (i : ℕ) → slice_get {X = List ℕ × Version} [] i ≡ None
    none zero = refl
    none (suc i) = refl
recorded c (e ∷ ds) d v a = go (finite.get c e) refl a.place a.here (recorded c ds d v)
  where
    later : Recorded c ds d v → Recorded c (e ∷ ds) d v
    later r = record { there = inr r.there; held = r.held }

    go : (o : Option Version) → finite.get c e ≡ o → (i : ℕ) → slice_get (cons_option (option_map (λ x. (e, x)) o) (records_of c ds)) i ≡ Some (d, v) → (IsAmong (records_of c ds) d v → Recorded c ds d v) → Recorded c (e ∷ ds) d v
    go None q i h rest = later (rest (record { place = i; here = h }))
    go (Some x) q zero h rest = record { there = inl (ap (λ (y : List ℕ × Version). y.0) (some_same h)); held = ap (finite.get c) (sym (ap (λ (y : List ℕ × Version). y.0) (some_same h))) ∙ q ∙ ap (λ (y : List ℕ × Version). Some y.1) (some_same h) }
    go (Some x) q (suc i) h rest = later (rest (record { place = i; here = h }))

batch_ok : {by : Policy} {factor : ℕ} {z : Front} {n : ℕ} {g i : Facts} → Behind by factor z n g i → (v : View) → g.exchange.view ≡ Some v → g.exchange.exchanged ≡ true → (t : Target) → Among g.batches t → (x : Batch) → next_batch (view_key g) g.store.content t ≡ Some x → BatchOk z n t.node x
batch_ok {by} {factor} {z} {n} {g} {i} b v e ex t a x q = go t.out refl q
  where
    there_i : Among i.batches t
    there_i = subst (λ (ts : Targets). Among ts t) (sym b.only.batches) a

    there : target (facts_at z n).batches t.node ≡ Some t
    there = ap (λ (f : Facts). target f.batches t.node) b.is ∙ b.law.aims t there_i

    exchanged : (facts_at z n).exchange.exchanged ≡ true
    exchanged = ap (λ (f : Facts). f.exchange.exchanged) b.is ∙ ap (λ (y : Exchange). y.exchanged) b.only.exchange ∙ ex

    fresh : t.out ≡ None → (ds : List (List ℕ)) → fresh_batch (view_key g) g.store.content t ds ≡ Some x → BatchOk z n t.node x
    fresh o [] h = no_some h
    fresh o (d ∷ ds) h = subst (λ (y : Batch). BatchOk z n t.node y) (some_same h) (record {
      stands = stands_at b v e;
      exchanged = exchanged;
      item = t;
      there = there;
      batch = inr (record {
        none = o;
        number = refl;
        held = λ c w r. let k : Recorded g.store.content (take batch_limit t.pending) c w = recorded g.store.content (take batch_limit t.pending) c w r in
            ap (λ (f : Facts). finite.get f.store.content c) b.is ∙ b.held t a c (taken_among batch_limit t.pending c k.there) ∙ k.held;
        pending = λ c w r. let k : Recorded g.store.content (take batch_limit t.pending) c w = recorded g.store.content (take batch_limit t.pending) c w r in
            any_among (λ y. bytes_eq y c) t.pending c (taken_among batch_limit t.pending c k.there) (digests.here c);
      });
    })

    go : (o : Option Batch) → t.out ≡ o → batch_after (view_key g) g.store.content t o ≡ Some x → BatchOk z n t.node x
    go (Some y) o h = record {
      stands = record { view = ap (λ (f : Facts). key_in f.exchange.view) b.is ∙ b.law.outs t there_i x (o ∙ h); stays = b.ended.stays n };
      exchanged = exchanged;
      item = t;
      there = there;
      batch = inl (o ∙ h);
    }
    go None o h = fresh o t.pending h

abbrev Sent : Facts → List Target → List (ℕ × Message)
Sent g ts = filter_map (λ t. batch_to t.node (next_batch (view_key g) g.store.content t)) ts

-- batches to one node are the same
apart_batches : (g : Facts) (t : Target) (x : Batch) → next_batch (view_key g) g.store.content t ≡ Some x → (ts : List Target) → ((u : Target) → Among ts u → t.node ≡ u.node → t ≡ u) → (tail : List (ℕ × Message)) → Each (λ (s : ℕ × Message). is_batch s.1 ≡ false) tail
    → Each (Apart (t.node, message.Batch x)) (Sent g ts ++ tail)
apart_batches g t x e [] same [] f = tt
apart_batches g t x e [] same (s ∷ tail) f = ((λ b c q. differ c f.0), apart_batches g t x e [] same tail f.1)
apart_batches g t x e (u ∷ ts) same tail f = go (next_batch (view_key g) g.store.content u) refl (apart_batches g t x e ts (λ w a. same w (inr a)) tail f)
  where
    go : (o : Option Batch) → next_batch (view_key g) g.store.content u ≡ o → Each (Apart (t.node, message.Batch x)) (Sent g ts ++ tail) → Each (Apart (t.node, message.Batch x)) (cons_option (batch_to u.node o) (Sent g ts) ++ tail)
    go None q rest = rest
    go (Some y) q rest = ((λ b c i. ap message.Batch (some_same (sym e ∙ ap (next_batch (view_key g) g.store.content) (same u (inl refl) (number_same t.node u.node i)) ∙ q))), rest)

batches_soft : {by : Policy} {factor : ℕ} {z : Front} {n : ℕ} {g i : Facts} → Behind by factor z n g i → (v : View) → g.exchange.view ≡ Some v → g.exchange.exchanged ≡ true → (ts : List Target) → ((t : Target) → Among ts t → Among g.batches t)
    → (tail : List (ℕ × Message)) → Each (λ (s : ℕ × Message). is_batch s.1 ≡ false) tail → EachSoftly z n tail → AreReadInRange (Sent g ts) → EachSoftly z n (Sent g ts ++ tail)
batches_soft b v e ex [] among tail f h read = h
batches_soft {by} {factor} {z} {n} {g} {i} b v e ex (t ∷ ts) among tail f h read = go (next_batch (view_key g) g.store.content t) refl read (λ r. batches_soft b v e ex ts (λ u a. among u (inr a)) tail f h r)
  where
    same : (u : Target) → Among ts u → t.node ≡ u.node → t ≡ u
    same u a q = some_same (sym (b.law.aims t (subst (λ (xs : Targets). Among xs t) (sym b.only.batches) (among t (inl refl)))) ∙ ap (target i.batches) q ∙ b.law.aims u (subst (λ (xs : Targets). Among xs u) (sym b.only.batches) (among u (inr a))))

    go : (o : Option Batch) → next_batch (view_key g) g.store.content t ≡ o → AreReadInRange (cons_option (batch_to t.node o) (Sent g ts)) → (AreReadInRange (Sent g ts) → EachSoftly z n (Sent g ts ++ tail)) → EachSoftly z n (cons_option (batch_to t.node o) (Sent g ts) ++ tail)
    go None q r rest = rest r
    go (Some x) q r rest = (record { read = reads_itself _ (r.0 refl); exact = λ q. r.0 refl; due = batch_ok b v e ex t (among t (inl refl)) x q; kind = inr refl }, apart_batches g t x q ts same tail f, rest r.1)

pub batches_go : {by : Policy} {factor : ℕ} {z : Front} {n : ℕ} {g i : Facts} → Behind by factor z n g i → (tail : List (ℕ × Message)) → Each (λ (s : ℕ × Message). is_batch s.1 ≡ false) tail → EachSoftly z n tail → AreReadInRange (batches g).sends → EachSoftly z n ((batches g).sends ++ tail)
batches_go {by} {factor} {z} {n} {g} {i} b tail f h read = go g.exchange.exchanged refl g.exchange.view refl
  where
    quiet : g.exchange.exchanged ≡ false → g.batches ≡ []
    quiet e = sym b.only.batches ∙ b.law.quiet (ap (λ (x : Exchange). x.exchanged) b.only.exchange ∙ e)

    go : (q : Bool) → g.exchange.exchanged ≡ q → (o : Option View) → g.exchange.view ≡ o → EachSoftly z n ((batches g).sends ++ tail)
    go false e o i = subst (λ (ts : Targets). EachSoftly z n (Sent g ts ++ tail)) (sym (quiet e)) h
    go true e None j = differ (ap (λ (x : Exchange). x.exchanged) b.only.exchange ∙ e) (b.law.inside (ap (λ (x : Exchange). x.view) b.only.exchange ∙ j))
    go true e (Some v) j = batches_soft b v j e g.batches (λ t a. a) tail f h read

-- ---- progress

pub progress_told : (z : Front) (i : Facts) (q : Bool) → Now z i → ((v : View) → i.exchange.view ≡ Some v → IsKeyField (view_key i)) → length i.bits.handed ≡ partition_count → length i.bits.settled ≡ partition_count → AreReadInRange (if q then sends_only (to_each (others i) (progress_message partition_count i true)) else nothing).sends → Told z i.me (if q then sends_only (to_each (others i) (progress_message partition_count i true)) else nothing).sends
progress_told z i false w key x y read = tt
progress_told z i true w key x y read = go i.exchange.view refl
  where
    go : (o : Option View) → i.exchange.view ≡ o → Told z i.me (to_each (others i) (progress_message partition_count i true))
    go None e = subst (λ (ns : List ℕ). Told z i.me (to_each ns (progress_message partition_count i true))) (sym (ap (λ (o : Option View). agreement.others_among i.me (members_of o)) e)) tt
    go (Some v) e = told_each z i.me (progress_message partition_count i true) (others i) refl (λ r c. progress_due z i v true r w e) (λ q. progress_reads i true (key v e) x y) read
