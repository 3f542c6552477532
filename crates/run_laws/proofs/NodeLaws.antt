-- What holds of a node's facts goes over lines and messages.
use Rattle.std.proofs.Common.{◌≡◌, ℕ, zero, suc, ◌+◌, ◌<◌, ◌==◌, Bool, true, false, cond, not, List, [], ◌∷◌, ◌++◌, length, map, replicate, Option, Some, None, refl, sym, ap, ◌∙◌, subst, arith, ⊎_elim}
use Rattle.std.specs.Prelude.{find, is_none, is_some, option_map, slice_set, if◌then◌else◌}
use Rattle.conflict_order.specs.declared.policy.Policy.{Policy}
use Rattle.conflict_order.specs.declared.version.Version.{Version}
use Rattle.conflict_order.specs.declared.want.Want.{Want}
use Rattle.cluster_types.specs.declared.cluster_key.ClusterKey.{ClusterKey}
use Rattle.cluster_types.specs.declared.member.Member.{Member}
use Rattle.cluster_types.specs.Members.{ids_of}
use Rattle.cluster_types.specs.Partitions.{partition_count, partition_of}
use Rattle.wire_messages.specs.declared.message.Batch.{Batch}
use Rattle.wire_messages.specs.declared.message.Message.{Message}
use Rattle.wire_messages.specs.declared.message.Message.TheVariants as message
use Rattle.wire_messages.specs.Proper.{IsProper}
use Rattle.node_rules.specs.declared.member_row.MemberRow.{MemberRow}
use Rattle.node_rules.specs.Batches as batches
use Rattle.node_rules.specs.Batches.{Target, Targets, target, acked_out}
use Rattle.node_rules.specs.Standing.{others, other_replicas}
use Rattle.partition_lists.specs.Lists.{replicas}
use Rattle.node_rules.specs.Bits.{clear_row, or_rows}
use Rattle.node_rules.specs.Copies.{Row}
use Rattle.node_rules.specs.Exchange.{View, first_missing, with_row, members_of}
use Rattle.node_rules.specs.Facts.{Facts, members_of_view, list_at}
use Rattle.node_rules.specs.Map.{lacks, list_master}
use Rattle.node_rules.specs.Notes as notes
use Rattle.node_rules.specs.Notes.{reached, in_view, sent, own_row}
use Rattle.node_rules.specs.Tables.{changed_if, contains}
use Rattle.node_rules.specs.Transactions as transactions
use Rattle.node_rules.specs.Transactions.{Transaction, Transactions, Write, transaction, awaits_answer, awaits_ack}
use Rattle.cluster_laws.proofs.At.{number_same, number_here, and_left, differ, some_same, no_some}
use Rattle.cluster_laws.proofs.Lists.{in_without}
use Rattle.cluster_laws.proofs.GroundLaws.{apart}
use Rattle.run_laws.specs.LineDue.{Acks, LawOf}
use Rattle.run_laws.specs.Tied.{Among, key_in}
use Rattle.run_laws.proofs.Among.{Of, among_map, Kept, among_filter, among_last, find_more, among_contains}
use Rattle.run_laws.proofs.Opened.{found_last}
use Rattle.run_laws.proofs.Targets.{target_changed, acked_node}
use Rattle.run_laws.proofs.Words.{not_itself}
use Rattle.run_laws.proofs.Closing.{closed_at}
use Rattle.run_laws.proofs.Reached.{lacks_with}
use Rattle.run_laws.proofs.Tables.{changing_at, target_new}

-- ---- rows of bits

pub set_length : (row : List Bool) (p : ℕ) (b : Bool) → length (slice_set row p b) ≡ length row
set_length [] zero b = refl
set_length [] (suc p) b = refl
set_length (x ∷ row) zero b = refl
set_length (x ∷ row) (suc p) b = ap suc (set_length row p b)

pub clear_length : length clear_row ≡ partition_count
unfolding clear_row
clear_length = go partition_count
  where
    go : (n : ℕ) → length (replicate n false) ≡ n
    go zero = refl
    go (suc n) = ap suc (go n)

or_length : (a b : List Bool) (n : ℕ) → length a ≡ n → length b ≡ n → length (or_rows a b) ≡ n
or_length [] [] n x y = x
or_length [] (b ∷ bs) n x y = y
or_length (a ∷ rest) [] n x y = x
or_length (a ∷ rest) (b ∷ bs) zero x y = absurd (omega (arith, x))
or_length (a ∷ rest) (b ∷ bs) (suc n) x y = ap suc (or_length rest bs n (omega (arith, x)) (omega (arith, y)))

-- ---- transactions

none_if : (b : Bool) (o : Option Transaction) → o ≡ None → cond b None o ≡ None
none_if true o e = refl
none_if false o e = e

none_changed : (b : Bool) (c : Transaction → Transaction) (o q : Option Transaction) → (b ≡ true → o ≡ q) → q ≡ None → cond b (option_map c o) q ≡ None
none_changed true c o q h e = ap (option_map c) (h refl ∙ e)
none_changed false c o q h e = e

changed_none : (ts : Transactions) (t : ℕ) (c : Transaction → Transaction) (u : ℕ) → ((z : Transaction) → (c z).number ≡ z.number) → transaction ts u ≡ None → transaction (transactions.changing ts t c) u ≡ None
changed_none ts t c u keeps e = changing_at ts t c u keeps ∙ none_changed (t == u) c (transaction ts t) (transaction ts u) (λ i. ap (transaction ts) (number_same t u i)) e

added_none : (xs : List Transaction) (y : Transaction) (u : ℕ) → find (λ (z : Transaction). z.number == u) xs ≡ None → (y.number == u) ≡ false → find (λ (z : Transaction). z.number == u) (xs ++ y ∷ []) ≡ None
added_none [] y u e i = ap (λ (b : Bool). if b then Some y else None) i
added_none (x ∷ xs) y u e i = go (x.number == u) e (λ q. added_none xs y u q i)
  where
    go : (b : Bool) → (if b then Some x else find (λ (z : Transaction). z.number == u) xs) ≡ None → (find (λ (z : Transaction). z.number == u) xs ≡ None → find (λ (z : Transaction). z.number == u) (xs ++ y ∷ []) ≡ None)
        → (if b then Some x else find (λ (z : Transaction). z.number == u) (xs ++ y ∷ [])) ≡ None
    go true q rest = absurd (grind (arith, q))
    go false q rest = rest q

kept_number : (change : Transaction → Transaction) (test : Transaction → Bool) → ((x : Transaction) → (change x).number ≡ x.number) → (x : Transaction) → (changed_if change x (test x)).number ≡ x.number
kept_number change test keeps x = go (test x)
  where
    go : (b : Bool) → (changed_if change x b).number ≡ x.number
    go true = keeps x
    go false = refl

-- ---- rows of members

none_missing : (ns : List ℕ) (rs qs : List MemberRow) → ((n : ℕ) → lacks rs n ≡ false → lacks qs n ≡ false) → find (lacks rs) ns ≡ None → find (lacks qs) ns ≡ None
none_missing [] rs qs h e = refl
none_missing (n ∷ ns) rs qs h e = go (lacks rs n) refl e (none_missing ns rs qs h)
  where
    go : (b : Bool) → lacks rs n ≡ b → (if b then Some n else find (lacks rs) ns) ≡ None → (find (lacks rs) ns ≡ None → find (lacks qs) ns ≡ None) → (if lacks qs n then Some n else find (lacks qs) ns) ≡ None
    go true i q rest = absurd (grind (arith, q))
    go false i q rest = ap (λ (b : Bool). if b then Some n else find (lacks qs) ns) (h n i) ∙ rest q

still_there : (rs : List MemberRow) (from : ℕ) (row : Row) (n : ℕ) → lacks rs n ≡ false → lacks (with_row rs from row) n ≡ false
still_there rs from row n e = lacks_with rs from row n ∙ go (from == n) e
  where
    go : (b : Bool) → lacks rs n ≡ false → cond b false (lacks rs n) ≡ false
    go true i = refl
    go false i = i

-- ---- what runs

not_both : (b : Bool) → b ≡ true → not b ≡ true → ⊥
not_both b x y = grind arith

unapplied : (o : Option Write) (w : Write) → o ≡ Some w → not (is_some o) ≡ true → ⊥
unapplied None w e i = no_some e
unapplied (Some x) w e i = differ i refl

abbrev Runs : Transactions → Type 0
Runs ts = (y : Transaction) → Among ts.running y → transaction ts y.number ≡ Some y

abbrev AcksOf : Facts → Transaction → Type 0
AcksOf f y = Acks f.me (list_at f (partition_of y.digest)) f.factor y

changed_runs : (ts : Transactions) (t : ℕ) (c : Transaction → Transaction) → ((x : Transaction) → (c x).number ≡ x.number) → Runs ts → Runs (transactions.changing ts t c)
changed_runs ts t c keeps h y a = let o : Of (λ (x : Transaction). changed_if c x (x.number == t)) ts.running y = among_map (λ (x : Transaction). changed_if c x (x.number == t)) ts.running y a in
    subst (λ (z : Transaction). transaction (transactions.changing ts t c) z.number ≡ Some z) o.made (go o.from (h o.from o.there) (o.from.number == t) refl)
  where
    go : (x : Transaction) → transaction ts x.number ≡ Some x → (b : Bool) → (x.number == t) ≡ b → transaction (transactions.changing ts t c) (changed_if c x b).number ≡ Some (changed_if c x b)
    go x e true i = ap (transaction (transactions.changing ts t c)) (keeps x ∙ number_same x.number t i) ∙ changing_at ts t c t keeps
        ∙ ap (λ (b : Bool). cond b (option_map c (transaction ts t)) (transaction ts t)) (number_here t) ∙ ap (option_map c) (ap (transaction ts) (sym (number_same x.number t i)) ∙ e)
    go x e false i = changing_at ts t c x.number keeps ∙ ap (λ (b : Bool). cond b (option_map c (transaction ts t)) (transaction ts x.number)) (apart t x.number (λ q. differ (ap (λ (n : ℕ). x.number == n) q ∙ number_here x.number) i)) ∙ e

changed_acks : (f : Facts) (t : ℕ) (c : Transaction → Transaction) (test : Transaction → Bool) → ((x : Transaction) → test x ≡ true → AcksOf f x → AcksOf f (c x)) → ((y : Transaction) → Among f.transactions.running y → AcksOf f y)
    → (y : Transaction) → Among (transactions.changing f.transactions t (λ x. changed_if c x (test x))).running y → AcksOf f y
changed_acks f t c test step h y a = let o : Of (λ (x : Transaction). changed_if (λ z. changed_if c z (test z)) x (x.number == t)) f.transactions.running y = among_map (λ (x : Transaction). changed_if (λ z. changed_if c z (test z)) x (x.number == t)) f.transactions.running y a in
    subst (AcksOf f) o.made (go o.from (h o.from o.there) (o.from.number == t) (test o.from) refl)
  where
    go : (x : Transaction) → AcksOf f x → (b q : Bool) → test x ≡ q → AcksOf f (changed_if (λ z. changed_if c z q) x b)
    go x e true true i = step x i e
    go x e true false i = e
    go x e false q i = e

opened_runs : (by : Policy) (factor : ℕ) (f : Facts) (n : Transaction) → n.number ≡ f.transactions.opened + 1 → LawOf by factor f → Runs (transactions.opening f.transactions n)
opened_runs by factor f n e h y a = ⊎_elim (λ r. find_more (λ (z : Transaction). z.number == y.number) f.transactions.running (n ∷ []) y (h.runs y r)) (λ z. subst (λ (x : Transaction). transaction (transactions.opening f.transactions n) x.number ≡ Some x) z new) (among_last f.transactions.running n y a)
  where
    new : transaction (transactions.opening f.transactions n) n.number ≡ Some n
    new = found_last f.transactions.running n n.number (h.counted n.number (subst (λ (m : ℕ). f.transactions.opened < m) (sym e) (omega arith)))
        ∙ ap (λ (b : Bool). cond b (Some n) (find (λ (z : Transaction). z.number == n.number) f.transactions.running)) (number_here n.number)

applied_acks : (by : Policy) (factor : ℕ) (f : Facts) (t : ℕ) (d : List ℕ) (v : Version) → ((y : Transaction) → transaction f.transactions t ≡ Some y → y.digest ≡ d) → LawOf by factor f
    → (y : Transaction) → Among (transactions.changing f.transactions t (transactions.with_write v (notes.next_nth f (partition_of d)) (other_replicas f (list_at f (partition_of d))))).running y → AcksOf f y
applied_acks by factor f t d v item h y a = let o : Of (λ (x : Transaction). changed_if write x (x.number == t)) f.transactions.running y = among_map (λ (x : Transaction). changed_if write x (x.number == t)) f.transactions.running y a in
    subst (AcksOf f) o.made (go o.from o.there (o.from.number == t) refl)
  where
    write : Transaction → Transaction
    write = transactions.with_write v (notes.next_nth f (partition_of d)) (other_replicas f (list_at f (partition_of d)))

    go : (x : Transaction) → Among f.transactions.running x → (b : Bool) → (x.number == t) ≡ b → AcksOf f (changed_if (transactions.with_write v (notes.next_nth f (partition_of d)) (other_replicas f (list_at f (partition_of d)))) x b)
    go x r false i = h.acks x r
    go x r true i = λ w e q c. (subst (λ (z : List ℕ). contains (replicas (list_at f (partition_of z)) f.factor) q ≡ true) (sym same) (in_without (replicas (list_at f (partition_of d)) f.factor) f.me q c), not_itself (replicas (list_at f (partition_of d)) f.factor) f.me q c)
      where
        same : x.digest ≡ d
        same = item x (ap (transaction f.transactions) (sym (number_same x.number t i)) ∙ h.runs x r)

-- ---- what is handed on

abbrev Aims : Targets → Type 0
Aims ts = (t : Target) → Among ts t → target ts t.node ≡ Some t

changed_aims : (ts : Targets) (n : ℕ) (c : Target → Target) → ((x : Target) → (c x).node ≡ x.node) → Aims ts → Aims (batches.change_target ts n c)
changed_aims ts n c keeps h y a = let o : Of (λ (x : Target). changed_if c x (x.node == n)) ts y = among_map (λ (x : Target). changed_if c x (x.node == n)) ts y a in
    subst (λ (z : Target). target (batches.change_target ts n c) z.node ≡ Some z) o.made (go o.from (h o.from o.there) (o.from.node == n) refl)
  where
    go : (x : Target) → target ts x.node ≡ Some x → (b : Bool) → (x.node == n) ≡ b → target (batches.change_target ts n c) (changed_if c x b).node ≡ Some (changed_if c x b)
    go x e true i = ap (target (batches.change_target ts n c)) (keeps x) ∙ target_changed ts n c x.node keeps ∙ ap (λ (b : Bool). cond b (option_map c (target ts x.node)) (target ts x.node)) (ap (λ (m : ℕ). m == x.node) (sym (number_same x.node n i)) ∙ number_here x.node) ∙ ap (option_map c) e
    go x e false i = target_changed ts n c x.node keeps ∙ ap (λ (b : Bool). cond b (option_map c (target ts x.node)) (target ts x.node)) (apart n x.node (λ q. differ (ap (λ (m : ℕ). x.node == m) q ∙ number_here x.node) i)) ∙ e

new_aims : (f : Facts) (ns : List ℕ) (t : Target) → Among (map (notes.target_for f) ns) t → target (map (notes.target_for f) ns) t.node ≡ Some t
new_aims f ns t a = let o : Of (notes.target_for f) ns t = among_map (notes.target_for f) ns t a in
    subst (λ (z : Target). target (map (notes.target_for f) ns) z.node ≡ Some z) o.made
    (target_new (notes.is_for f) f.store.content ns o.from ∙ ap (λ (b : Bool). cond b (Some (notes.target_for f o.from)) None) (among_contains ns o.from o.there))

new_outs : (f : Facts) (ns : List ℕ) (t : Target) → Among (map (notes.target_for f) ns) t → (b : Batch) → t.out ≡ Some b → key_in f.exchange.view ≡ Some b.key
new_outs f ns t a b e = let o : Of (notes.target_for f) ns t = among_map (notes.target_for f) ns t a in no_some (ap (λ (x : Target). x.out) o.made ∙ e)

abbrev Outs : Facts → Targets → Type 0
Outs f ts = (t : Target) → Among ts t → (b : Batch) → t.out ≡ Some b → key_in f.exchange.view ≡ Some b.key

acked_outs : (f : Facts) (n number : ℕ) → Outs f f.batches → Outs f (batches.acking f.batches n number)
acked_outs f n number h t a b e = let o : Of (λ (x : Target). changed_if (λ y. acked_out y number y.out) x (x.node == n)) f.batches t = among_map (λ (x : Target). changed_if (λ y. acked_out y number y.out) x (x.node == n)) f.batches t a in
    go o.from o.there (o.from.node == n) (ap (λ (x : Target). x.out) o.made ∙ e)
  where
    acked : (x : Target) → Among f.batches x → (q : Option Batch) → x.out ≡ q → (acked_out x number q).out ≡ Some b → key_in f.exchange.view ≡ Some b.key
    acked x r None i j = h x r b j
    acked x r (Some c) i j = by_number (c.number == number) j
      where
        by_number : (z : Bool) → (if z then batches.without_batch x c else x).out ≡ Some b → key_in f.exchange.view ≡ Some b.key
        by_number true k = no_some k
        by_number false k = h x r b k

    go : (x : Target) → Among f.batches x → (q : Bool) → (changed_if (λ y. acked_out y number y.out) x q).out ≡ Some b → key_in f.exchange.view ≡ Some b.key
    go x r true i = acked x r x.out refl i
    go x r false i = h x r b i

sent_outs : (f : Facts) (n : ℕ) (c : Batch) → key_in f.exchange.view ≡ Some c.key → Outs f f.batches → Outs f (batches.sending f.batches n c)
sent_outs f n c k h t a b e = let o : Of (λ (x : Target). changed_if (λ y. record y { out = Some c; batches = c.number }) x (x.node == n)) f.batches t = among_map (λ (x : Target). changed_if (λ y. record y { out = Some c; batches = c.number }) x (x.node == n)) f.batches t a in
    go o.from o.there (o.from.node == n) (ap (λ (x : Target). x.out) o.made ∙ e)
  where
    go : (x : Target) → Among f.batches x → (q : Bool) → (changed_if (λ y. record y { out = Some c; batches = c.number }) x q).out ≡ Some b → key_in f.exchange.view ≡ Some b.key
    go x r true i = k ∙ ap (λ (y : Batch). Some y.key) (some_same i)
    go x r false i = h x r b i

-- ---- lines of the node

no_view : (by : Policy) (factor : ℕ) (f : Facts) → LawOf by factor f → LawOf by factor (notes.stopped f)
no_view by factor f h = record {
  same_by = h.same_by;
  same_factor = h.same_factor;
  full = λ v i. no_some i;
  own = λ v i. no_some i;
  quiet = λ e. refl;
  handed_places = clear_length;
  own_handed_places = clear_length;
  settled_places = clear_length;
  own_settled_places = clear_length;
  counted = λ t lt. refl;
  runs = λ y a. absurd a;
  acks = λ y a. absurd a;
  aims = λ t a. absurd a;
  outs = λ t a. absurd a;
  inside = λ e. refl;
}

pub stopped_law : (by : Policy) (factor : ℕ) (f : Facts) → LawOf by factor f → LawOf by factor (notes.stopped f)
stopped_law by factor f h = no_view by factor f h

pub entered_law : (by : Policy) (factor : ℕ) (f : Facts) (k : ClusterKey) (ms : List Member) → LawOf by factor f → LawOf by factor (notes.entered f k ms (own_row f))
entered_law by factor f k ms h = record {
  same_by = h.same_by;
  same_factor = h.same_factor;
  full = λ v i e. absurd (differ e refl);
  own = λ v i. ap (λ (b : Bool). is_none (option_map (λ (r : MemberRow). r.row) (if b then Some (record { node = f.me; row = own_row f }) else None))) (number_here f.me);
  quiet = λ e. refl;
  handed_places = clear_length;
  own_handed_places = clear_length;
  settled_places = clear_length;
  own_settled_places = clear_length;
  counted = λ t lt. refl;
  runs = λ y a. absurd a;
  acks = λ y a. absurd a;
  aims = λ t a. absurd a;
  outs = λ t a. absurd a;
  inside = λ e. refl;
}

pub exchanged_law : (by : Policy) (factor : ℕ) (f : Facts) (k : ClusterKey) → first_missing f.exchange.rows (members_of_view f) ≡ None → key_in f.exchange.view ≡ Some k → LawOf by factor f → LawOf by factor (notes.exchanged f k)
exchanged_law by factor f k none seen h = record {
  same_by = h.same_by;
  same_factor = h.same_factor;
  full = λ v i e. ap (λ (o : Option View). first_missing f.exchange.rows (members_of o)) (sym i) ∙ none;
  own = h.own;
  quiet = λ e. absurd (differ refl e);
  handed_places = h.handed_places;
  own_handed_places = h.own_handed_places;
  settled_places = h.settled_places;
  own_settled_places = h.own_settled_places;
  counted = h.counted;
  runs = h.runs;
  acks = h.acks;
  aims = λ t a. new_aims f (others f) t a;
  outs = λ t a b e. new_outs f (others f) t a b e;
  inside = λ e. no_some (ap key_in (sym e) ∙ seen);
}

not_next : (o t u : ℕ) → t ≡ o + 1 → o + 1 < u → (t == u) ≡ false
not_next o t u e lt = apart t u (λ i. absurd (omega (arith, e, lt, i)))

below_next : (o u : ℕ) → o + 1 < u → o < u
below_next o u lt = omega (arith, lt)

pub opened_law : (by : Policy) (factor : ℕ) (f : Facts) (l : List ℕ) (t : ℕ) (d : List ℕ) (w : Want) → t ≡ f.transactions.opened + 1 → LawOf by factor f → LawOf by factor (notes.transaction_opened f l t d w)
opened_law by factor f l t d w e h = record {
  same_by = h.same_by;
  same_factor = h.same_factor;
  full = h.full;
  own = h.own;
  quiet = h.quiet;
  handed_places = h.handed_places;
  own_handed_places = h.own_handed_places;
  settled_places = h.settled_places;
  own_settled_places = h.own_settled_places;
  counted = λ u lt. added_none f.transactions.running (notes.opening_transaction f l t d w) u (h.counted u (below_next f.transactions.opened u lt)) (not_next f.transactions.opened t u e lt);
  runs = λ y a. opened_runs by factor f (notes.opening_transaction f l t d w) e h y a;
  acks = λ y a. ⊎_elim (λ r. h.acks y r) (λ z v i. no_some (ap (λ (x : Transaction). x.applied) z ∙ i)) (among_last f.transactions.running (notes.opening_transaction f l t d w) y a);
  aims = h.aims;
  outs = h.outs;
  inside = h.inside;
}

pub closed_law : (by : Policy) (factor : ℕ) (f : Facts) (t : ℕ) → LawOf by factor f → LawOf by factor (notes.closed f t)
closed_law by factor f t h = record {
  same_by = h.same_by;
  same_factor = h.same_factor;
  full = h.full;
  own = h.own;
  quiet = h.quiet;
  handed_places = h.handed_places;
  own_handed_places = h.own_handed_places;
  settled_places = h.settled_places;
  own_settled_places = h.own_settled_places;
  counted = λ u lt. closed_at f.transactions.running t u ∙ none_if (t == u) (transaction f.transactions u) (h.counted u lt);
  runs = λ y a. let k : Kept (λ (z : Transaction). not (z.number == t)) f.transactions.running y = among_filter (λ (z : Transaction). not (z.number == t)) f.transactions.running y a in
      closed_at f.transactions.running t y.number ∙ ap (λ (b : Bool). cond b None (transaction f.transactions y.number)) (apart t y.number (λ i. not_both (y.number == t) (ap (λ (n : ℕ). y.number == n) i ∙ number_here y.number) k.passes)) ∙ h.runs y k.there;
  acks = λ y a. h.acks y (among_filter (λ (z : Transaction). not (z.number == t)) f.transactions.running y a).there;
  aims = h.aims;
  outs = h.outs;
  inside = h.inside;
}

pub applied_law : (by : Policy) (factor : ℕ) (f : Facts) (k : ClusterKey) (t : ℕ) (d : List ℕ) (v : Version) → ((y : Transaction) → transaction f.transactions t ≡ Some y → y.digest ≡ d) → LawOf by factor f → LawOf by factor (notes.write_applied f k (list_at f (partition_of d)) t d v)
applied_law by factor f k t d v item h = record {
  same_by = h.same_by;
  same_factor = h.same_factor;
  full = h.full;
  own = h.own;
  quiet = h.quiet;
  handed_places = h.handed_places;
  own_handed_places = h.own_handed_places;
  settled_places = h.settled_places;
  own_settled_places = h.own_settled_places;
  counted = λ u lt. changed_none f.transactions t _ u (λ z. refl) (h.counted u lt);
  runs = λ y a. changed_runs f.transactions t _ (λ x. refl) h.runs y a;
  acks = λ y a. applied_acks by factor f t d v item h y a;
  aims = h.aims;
  outs = h.outs;
  inside = h.inside;
}

pub handed_law : (by : Policy) (factor : ℕ) (f : Facts) (p : ℕ) → LawOf by factor f → LawOf by factor (notes.handed f p)
handed_law by factor f p h = record {
  same_by = h.same_by;
  same_factor = h.same_factor;
  full = h.full;
  own = h.own;
  quiet = h.quiet;
  handed_places = set_length f.bits.handed p true ∙ h.handed_places;
  own_handed_places = set_length f.bits.own_handed p true ∙ h.own_handed_places;
  settled_places = h.settled_places;
  own_settled_places = h.own_settled_places;
  counted = h.counted;
  runs = h.runs;
  acks = h.acks;
  aims = h.aims;
  outs = h.outs;
  inside = h.inside;
}

pub settled_law : (by : Policy) (factor : ℕ) (f : Facts) (p : ℕ) → LawOf by factor f → LawOf by factor (notes.settled f p)
settled_law by factor f p h = record {
  same_by = h.same_by;
  same_factor = h.same_factor;
  full = h.full;
  own = h.own;
  quiet = h.quiet;
  handed_places = h.handed_places;
  own_handed_places = h.own_handed_places;
  settled_places = set_length f.bits.settled p true ∙ h.settled_places;
  own_settled_places = set_length f.bits.own_settled p true ∙ h.own_settled_places;
  counted = h.counted;
  runs = h.runs;
  acks = h.acks;
  aims = h.aims;
  outs = h.outs;
  inside = h.inside;
}

-- ---- messages

row_law : (by : Policy) (factor : ℕ) (f : Facts) (from : ℕ) (row : Row) (b : Bool) → LawOf by factor f → LawOf by factor (notes.row_came f from row b)
row_law by factor f from row false h = h
row_law by factor f from row true h = record {
  same_by = h.same_by;
  same_factor = h.same_factor;
  full = λ v i e. none_missing (ids_of v.members) f.exchange.rows (with_row f.exchange.rows from row) (still_there f.exchange.rows from row) (h.full v i e);
  own = λ v i. still_there f.exchange.rows from row f.me (h.own v i);
  quiet = h.quiet;
  handed_places = h.handed_places;
  own_handed_places = h.own_handed_places;
  settled_places = h.settled_places;
  own_settled_places = h.own_settled_places;
  counted = h.counted;
  runs = h.runs;
  acks = h.acks;
  aims = h.aims;
  outs = h.outs;
  inside = h.inside;
}

ack_law : (by : Policy) (factor : ℕ) (f : Facts) (from number : ℕ) (b : Bool) → LawOf by factor f → LawOf by factor (notes.batch_acked f from number b)
ack_law by factor f from number false h = h
ack_law by factor f from number true h = record {
  same_by = h.same_by;
  same_factor = h.same_factor;
  full = h.full;
  own = h.own;
  quiet = λ e. ap (λ (ts : Targets). batches.acking ts from number) (h.quiet e);
  handed_places = h.handed_places;
  own_handed_places = h.own_handed_places;
  settled_places = h.settled_places;
  own_settled_places = h.own_settled_places;
  counted = h.counted;
  runs = h.runs;
  acks = h.acks;
  aims = λ t a. changed_aims f.batches from (λ (x : Target). acked_out x number x.out) (acked_node number) h.aims t a;
  outs = λ t a b e. acked_outs f from number h.outs t a b e;
  inside = h.inside;
}

progress_law : (by : Policy) (factor : ℕ) (f : Facts) (from : ℕ) (done handed settled : List Bool) (b : Bool) → length handed ≡ partition_count → length settled ≡ partition_count → LawOf by factor f → LawOf by factor (notes.progress_came f from done handed settled b)
progress_law by factor f from done handed settled false x y h = h
progress_law by factor f from done handed settled true x y h = record {
  same_by = h.same_by;
  same_factor = h.same_factor;
  full = h.full;
  own = h.own;
  quiet = h.quiet;
  handed_places = or_length f.bits.handed handed partition_count h.handed_places x;
  own_handed_places = h.own_handed_places;
  settled_places = or_length f.bits.settled settled partition_count h.settled_places y;
  own_settled_places = h.own_settled_places;
  counted = h.counted;
  runs = h.runs;
  acks = h.acks;
  aims = h.aims;
  outs = h.outs;
  inside = h.inside;
}

counted_law : (by : Policy) (factor : ℕ) (f : Facts) (k : ClusterKey) (l : List ℕ) (p nth : ℕ) (b : Bool) → LawOf by factor f → LawOf by factor (notes.write_counted_if f k l p nth b)
counted_law by factor f k l p nth true h = h
counted_law by factor f k l p nth false h = h

write_law : (by : Policy) (factor : ℕ) (f : Facts) (from : ℕ) (k : ClusterKey) (nth p : ℕ) (b : Bool) → LawOf by factor f → LawOf by factor (notes.write_came f from k nth p b)
write_law by factor f from k nth p false h = h
write_law by factor f from k nth p true h = counted_law by factor f k (list_at f p) p nth (from == list_master (list_at f p)) h

changing_law : (by : Policy) (factor : ℕ) (f : Facts) (t : ℕ) (c : Transaction → Transaction) (test : Transaction → Bool) → ((z : Transaction) → (c z).number ≡ z.number) → ((x : Transaction) → test x ≡ true → AcksOf f x → AcksOf f (c x)) → LawOf by factor f
    → LawOf by factor (record f { transactions = transactions.changing f.transactions t (λ x. changed_if c x (test x)) })
changing_law by factor f t c test keeps acks h = record {
  same_by = h.same_by;
  same_factor = h.same_factor;
  full = h.full;
  own = h.own;
  quiet = h.quiet;
  handed_places = h.handed_places;
  own_handed_places = h.own_handed_places;
  settled_places = h.settled_places;
  own_settled_places = h.own_settled_places;
  counted = λ u lt. changed_none f.transactions t (λ x. changed_if c x (test x)) u (kept_number c test keeps) (h.counted u lt);
  runs = λ y a. changed_runs f.transactions t (λ x. changed_if c x (test x)) (kept_number c test keeps) h.runs y a;
  acks = λ y a. changed_acks f t c test acks h.acks y a;
  aims = h.aims;
  outs = h.outs;
  inside = h.inside;
}

repl_ack_law : (by : Policy) (factor : ℕ) (f : Facts) (from t : ℕ) (b : Bool) → LawOf by factor f → LawOf by factor (notes.write_acked f from t b)
repl_ack_law by factor f from t false h = h
repl_ack_law by factor f from t true h = changing_law by factor f t (transactions.acknowledged from) (λ x. awaits_ack x from) (λ z. refl) (λ x e q w i r a. q w i r (in_without x.awaiting from r a)) h

answer_law : (by : Policy) (factor : ℕ) (f : Facts) (from t : ℕ) (v : Option Version) (b : Bool) → LawOf by factor f → LawOf by factor (notes.answer_came f from t v b)
answer_law by factor f from t v false h = h
answer_law by factor f from t v true h = changing_law by factor f t (transactions.answered f.store.by from v) (λ x. awaits_answer x from) (λ z. refl) (λ x e q w i r a. absurd (unapplied x.applied w i (and_left (not (is_some x.applied)) _ e))) h

pub reached_law : (by : Policy) (factor : ℕ) (f : Facts) (from : ℕ) (m : Message) → IsProper m → LawOf by factor f → LawOf by factor (reached f from m)
reached_law by factor f from (message.State k wants row) p h = row_law by factor f from row (in_view f k) h
reached_law by factor f from (message.BatchAck k number) p h = ack_law by factor f from number (in_view f k) h
reached_law by factor f from (message.Progress k wants done handed settled) p h = progress_law by factor f from done handed settled (in_view f k) p.2.size p.3.size h
reached_law by factor f from (message.Repl k t nth d v) p h = write_law by factor f from k nth (partition_of d) (in_view f k) h
reached_law by factor f from (message.ReplAck k t) p h = repl_ack_law by factor f from t (in_view f k) h
reached_law by factor f from (message.Answer k t v) p h = answer_law by factor f from t v (in_view f k) h
reached_law by factor f from _ p h = h

pub sent_law : (by : Policy) (factor : ℕ) (f : Facts) (to : ℕ) (m : Message) → ((b : Batch) → m ≡ message.Batch b → key_in f.exchange.view ≡ Some b.key) → LawOf by factor f → LawOf by factor (sent f to m)
sent_law by factor f to (message.Batch b) keyed h = record {
  same_by = h.same_by;
  same_factor = h.same_factor;
  full = h.full;
  own = h.own;
  quiet = λ e. ap (λ (ts : Targets). batches.sending ts to b) (h.quiet e);
  handed_places = h.handed_places;
  own_handed_places = h.own_handed_places;
  settled_places = h.settled_places;
  own_settled_places = h.own_settled_places;
  counted = h.counted;
  runs = h.runs;
  acks = h.acks;
  aims = λ t a. changed_aims f.batches to (λ (x : Target). record x { out = Some b; batches = b.number }) (λ x. refl) h.aims t a;
  outs = λ t a c e. sent_outs f to b (keyed b refl) h.outs t a c e;
  inside = h.inside;
}
sent_law by factor f to _ keyed h = h
