-- A transaction opens, a batch is sent, and a row comes.
use Rattle.std.proofs.Common.{◌≡◌, ℕ, ◌+◌, ◌==◌, Bool, true, false, cond, ◌&&◌, ◌||◌, List, [], ◌∷◌, ◌++◌, Option, Some, None, refl, sym, ap, ap₂, ◌∙◌, arith, subst, ⊎_elim}
use Rattle.std.specs.Prelude.{find, option_map, if◌then◌else◌}
use Rattle.conflict_order.specs.declared.version.Version.{Version}
use Rattle.conflict_order.specs.declared.want.Want.{Want}
use Rattle.cluster_types.specs.declared.cluster_key.ClusterKey.{ClusterKey}
use Rattle.cluster_types.specs.Partitions.{partition_of}
use Rattle.cluster_types.specs.Rows.{bit}
use Rattle.wire_messages.specs.declared.message.Batch.{Batch}
use Rattle.wire_messages.specs.declared.message.Message.TheVariants as message
use Rattle.node_rules.specs.Batches as batches
use Rattle.node_rules.specs.Batches.{Target, Targets, target, out_of, out_to}
use Rattle.node_rules.specs.Facts.{Facts, list_at}
use Rattle.node_rules.specs.Notes as notes
use Rattle.node_rules.specs.Standing.{asked, is_all_empty}
use Rattle.node_rules.specs.Tables.{changed_if}
use Rattle.node_rules.specs.Transactions.{Transaction, transaction}
use Rattle.cluster_laws.specs.Changed.{at_number}
use Rattle.cluster_laws.specs.Changes as changes
use Rattle.cluster_laws.specs.Changes.{beginning, asks_now}
use Rattle.cluster_laws.specs.Ground.{Ground, is_view_member, asks}
use Rattle.cluster_laws.specs.Picture.{Seen}
use Rattle.cluster_laws.specs.Stay.{Stay, Running}
use Rattle.cluster_laws.proofs.At.{number_same, number_here, number_cases, differ}
use Rattle.cluster_laws.proofs.GroundLaws.{apart}
use Rattle.run_laws.specs.Tied.{Seens, Stays, Views, RowsAgree, has_pending, batches_of, running_from}
use Rattle.run_laws.proofs.Classes.{asks_tied, empty_tied}

-- ---- `opened`

none_if : (p q r : Bool) (a b : List ℕ) → p ≡ q → a ≡ b → r ≡ true → (e : Bool) → (if p || e then [] else a) ≡ (if q || (r && e) then [] else b)
none_if p q r a b i j k e = ap₂ (λ (x : Bool) (l : List ℕ). if x || e then [] else l) i j ∙ ap (λ (x : Bool). if q || (x && e) then [] else b) (sym k)

asked_tied : (G : Ground) (k : ClusterKey) (f : Facts) (s : Stay) (p : ℕ) → Views G k f → RowsAgree G k f.exchange.rows → is_view_member G k f.me ≡ true → f.exchange.exchanged ≡ true → Stays f s → asks_now G k f.me s p ≡ asked f (list_at f p) p
asked_tied G k f s p v a mem x h =
    ap (λ (e : Bool). if s.settled p || e then [] else asks G k p f.me) (sym (empty_tied G k f p v a))
    ∙ none_if (s.settled p) (bit f.bits.settled p) f.exchange.exchanged (asks G k p f.me) _ (h.settled p) (sym (asks_tied G k f p f.me v a mem)) x (is_all_empty f p)

pub found_last : (xs : List Transaction) (y : Transaction) (u : ℕ) → find (λ (z : Transaction). z.number == y.number) xs ≡ None
    → find (λ (z : Transaction). z.number == u) (xs ++ y ∷ []) ≡ cond (y.number == u) (Some y) (find (λ (z : Transaction). z.number == u) xs)
found_last [] y u e = refl
found_last (x ∷ xs) y u e = go (x.number == y.number) (x.number == u) refl refl e (found_last xs y u)
  where
    go : (a b : Bool) → (x.number == y.number) ≡ a → (x.number == u) ≡ b → (if a then Some x else find (λ (z : Transaction). z.number == y.number) xs) ≡ None
        → (find (λ (z : Transaction). z.number == y.number) xs ≡ None → find (λ (z : Transaction). z.number == u) (xs ++ y ∷ []) ≡ cond (y.number == u) (Some y) (find (λ (z : Transaction). z.number == u) xs))
        → (if b then Some x else find (λ (z : Transaction). z.number == u) (xs ++ y ∷ [])) ≡ cond (y.number == u) (Some y) (if b then Some x else find (λ (z : Transaction). z.number == u) xs)
    go true b i j z rest = absurd (grind (arith, z))
    go false false i j z rest = rest z
    go false true i j z rest = sym (ap (λ (c : Bool). cond c (Some y) (Some x)) (apart y.number u (λ q. differ (ap (λ (n : ℕ). x.number == n) q ∙ j) i)))

shown_if : (b : Bool) (y : Transaction) (o : Option Transaction) → cond b (Some (running_from y)) (option_map running_from o) ≡ option_map running_from (cond b (Some y) o)
shown_if true y o = refl
shown_if false y o = refl

pub opened_tied : (G : Ground) (k : ClusterKey) (f : Facts) (x : Seen) (s : Stay) (t : ℕ) (d : List ℕ) (w : Want) → Views G k f → RowsAgree G k f.exchange.rows → is_view_member G k f.me ≡ true → f.exchange.exchanged ≡ true
    → transaction f.transactions t ≡ None → Seens f x → Stays f s → Stays (notes.transaction_opened f (list_at f (partition_of d)) t d w) (beginning G f.me k t d x.content s)
opened_tied G k f x s t d w v a mem e none sn h = record {
  entered = h.entered;
  exchanged = h.exchanged;
  rows = h.rows;
  pending = h.pending;
  out = h.out;
  batches = h.batches;
  opened = ap (λ (n : ℕ). n + 1) h.opened;
  running = λ u. ap₂ (λ (o : Option Version) (l : List ℕ). cond (t == u) (Some (record { digest = d; best = o; asked = l; awaiting = l; applied = None })) (s.running u)) (sn.content d) (asked_tied G k f s (partition_of d) v a mem e h)
      ∙ ap (λ (o : Option Running). cond (t == u) (Some (running_from y)) o) (h.running u)
      ∙ shown_if (t == u) y (transaction f.transactions u)
      ∙ ap (option_map running_from) (sym (found_last f.transactions.running y u none));
  applies = h.applies;
  numbers = h.numbers;
  handed = h.handed;
  own_handed = h.own_handed;
  settled = h.settled;
  own_settled = h.own_settled;
  told = h.told;
}
  where
    y : Transaction
    y = notes.opening_transaction f (list_at f (partition_of d)) t d w

-- ---- a batch is sent

abbrev same_option : Option Target → Option Target → Type 0
same_option a b = a ≡ b

nothing_sent : (c : Bool) → same_option None (cond c None None)
nothing_sent true = refl
nothing_sent false = refl

-- the target with a batch that is out
abbrev with_out : Batch → Target → Target
with_out b t = record t { out = Some b; batches = b.number }

pub target_sent : (ts : Targets) (to : ℕ) (b : Batch) (r : ℕ) → target (batches.sending ts to b) r ≡ cond (to == r) (option_map (with_out b) (target ts r)) (target ts r)
target_sent [] to b r = nothing_sent (to == r)
target_sent (t ∷ ts) to b r = go (t.node == to) (t.node == r) refl refl (target_sent ts to b r)
  where
    go : (c e : Bool) → (t.node == to) ≡ c → (t.node == r) ≡ e → target (batches.sending ts to b) r ≡ cond (to == r) (option_map (with_out b) (target ts r)) (target ts r)
        → (if (changed_if (with_out b) t c).node == r then Some (changed_if (with_out b) t c) else target (batches.sending ts to b) r)
        ≡ cond (to == r) (option_map (with_out b) (if e then Some t else target ts r)) (if e then Some t else target ts r)
    go true true i j h = ap (λ (q : Bool). if q then Some (record t { out = Some b; batches = b.number }) else target (batches.sending ts to b) r) j
        ∙ sym (ap (λ (q : Bool). cond q (Some (record t { out = Some b; batches = b.number })) (Some t)) (ap (λ (n : ℕ). n == r) (sym (number_same t.node to i)) ∙ j))
    go true false i j h = ap (λ (q : Bool). if q then Some (record t { out = Some b; batches = b.number }) else target (batches.sending ts to b) r) j ∙ h
    go false true i j h = ap (λ (q : Bool). if q then Some t else target (batches.sending ts to b) r) j
        ∙ sym (ap (λ (q : Bool). cond q (Some (record t { out = Some b; batches = b.number })) (Some t)) (apart to r (λ z. differ (ap (λ (n : ℕ). t.node == n) z ∙ j) i)))
    go false false i j h = ap (λ (q : Bool). if q then Some t else target (batches.sending ts to b) r) j ∙ h

-- the node has a target for the receiver
pub record HasTarget (ts : Targets) (r : ℕ) : Type 0 where
  pub item : Target
  pub there : target ts r ≡ Some item

pub batch_tied : (f : Facts) (s : Stay) (to : ℕ) (b : Batch) → HasTarget f.batches to → Stays f s → Stays (notes.sent f to (message.Batch b)) (changes.stay_after_batch to b s)
batch_tied f s to b has h = record {
  entered = h.entered;
  exchanged = h.exchanged;
  rows = h.rows;
  pending = λ r d. h.pending r d ∙ kept (to == r) (target f.batches r) d ∙ sym (ap (λ (o : Option Target). has_pending o d) (target_sent f.batches to b r));
  out = λ r. ⊎_elim (λ e. one_out r e) (λ z. ap (λ (c : Bool). cond c (Some b) (s.out r)) (apart to r z) ∙ h.out r ∙ sym (ap out_of (target_sent f.batches to b r ∙ ap (λ (c : Bool). cond c (option_map (with_out b) (target f.batches r)) (target f.batches r)) (apart to r z)))) (number_cases to r);
  batches = λ r. ⊎_elim (λ e. one_count r e) (λ z. ap (λ (c : Bool). cond c b.number (s.batches r)) (apart to r z) ∙ h.batches r ∙ sym (ap batches_of (target_sent f.batches to b r ∙ ap (λ (c : Bool). cond c (option_map (with_out b) (target f.batches r)) (target f.batches r)) (apart to r z)))) (number_cases to r);
  opened = h.opened;
  running = h.running;
  applies = h.applies;
  numbers = h.numbers;
  handed = h.handed;
  own_handed = h.own_handed;
  settled = h.settled;
  own_settled = h.own_settled;
  told = h.told;
}
  where
    kept : (c : Bool) (o : Option Target) (d : List ℕ) → has_pending o d ≡ has_pending (cond c (option_map (with_out b) o) o) d
    kept true None d = refl
    kept true (Some t) d = refl
    kept false o d = refl

    new : target (batches.sending f.batches to b) to ≡ Some (record has.item { out = Some b; batches = b.number })
    new = target_sent f.batches to b to ∙ ap (λ (c : Bool). cond c (option_map (with_out b) (target f.batches to)) (target f.batches to)) (number_here to) ∙ ap (option_map (with_out b)) has.there

    one_out : (r : ℕ) → to ≡ r → at_number s.out to (Some b) r ≡ out_to (batches.sending f.batches to b) r
    one_out r e = subst (λ (q : ℕ). at_number s.out to (Some b) q ≡ out_to (batches.sending f.batches to b) q) e (ap (λ (c : Bool). cond c (Some b) (s.out to)) (number_here to) ∙ sym (ap out_of new))

    one_count : (r : ℕ) → to ≡ r → at_number s.batches to b.number r ≡ batches_of (target (batches.sending f.batches to b) r)
    one_count r e = subst (λ (q : ℕ). at_number s.batches to b.number q ≡ batches_of (target (batches.sending f.batches to b) q)) e (ap (λ (c : Bool). cond c b.number (s.batches to)) (number_here to) ∙ sym (ap batches_of new))
