-- The numbers of the list master's writes, and what they tell of a stay.
use Rattle.std.proofs.Common.{◌≡◌, ℕ, ◌+◌, ◌==◌, Bool, true, false, not, ◌||◌, List, [], ◌∷◌, Some, None, refl, sym, ap, ◌∙◌, subst, arith, ◌⊎◌, inl, inr, ⊎_elim}
use Rattle.std.specs.Prelude.{nat_lt, if◌then◌else◌}
use Rattle.conflict_order.specs.declared.version.Version.{Version}
use Rattle.conflict_order.specs.Join.{AtMost}
use Rattle.conflict_order.specs.Order.{is_newer}
use Rattle.conflict_order.proofs.OrderLaws.{AtMost_trans, not_newer_AtMost}
use Rattle.cluster_types.specs.declared.cluster_key.ClusterKey.{ClusterKey}
use Rattle.cluster_types.specs.Partitions.{partition_of}
use Rattle.cluster_types.specs.Distinct.{contains}
use Rattle.partition_lists.specs.Counts.{with_number}
use Rattle.wire_messages.specs.declared.message.Message.TheVariants as message
use Rattle.cluster_laws.specs.Ground.{Ground, view_master, is_view_replica}
use Rattle.cluster_laws.specs.Stay.{Applied, Stay}
use Rattle.cluster_laws.specs.Picture.{Seen, Owed, Picture, start}
use Rattle.cluster_laws.specs.Effect.{Effect}
use Rattle.cluster_laws.specs.Changes as changes
use Rattle.cluster_laws.specs.Changes.{act, heard, hearing, with_version}
use Rattle.cluster_laws.specs.Licences.{MayApply}
use Rattle.cluster_laws.proofs.At.{numbers, changed_either, number_same, differ, some_same, no_some, or_cases}
use Rattle.cluster_laws.proofs.Allowed.{Allowed, WriteCame}
use Rattle.cluster_laws.proofs.Step.{exchange, apply, write, Step, enter, within, steps}
use Rattle.cluster_laws.proofs.Txns.{AllTxns}
use Rattle.cluster_laws.proofs.Grows.{Grows}
use Rattle.cluster_laws.proofs.Predicates.{Wrote}
use Rattle.cluster_laws.proofs.Said.{Known}

-- ---- a write that a line adds

pub record NewWrite (G : Ground) (w v : Picture) (n : ℕ) (k : ClusterKey) (t : ℕ) (e : Applied) : Type 0 where
  pub may : MayApply w n k t e.digest e.version
  pub nth : e.nth ≡ (w.stay n k).applies (partition_of e.digest) + 1
  pub early : e.early ≡ not (w.settled k (partition_of e.digest))
  pub is : v ≡ changes.applies G n k t e.digest e.version w

pub new_write : (G : Ground) (w v : Picture) (n : ℕ) (k : ClusterKey) (x : Seen) (s : Stay) → Step G w v n k x s → (t : ℕ) (e : Applied) → s.writes t ≡ Some e → ((w.stay n k).writes t ≡ Some e) ⊎ NewWrite G w v n k t e
new_write G w v n k _ _ (enter ok z) t e a = no_some a
new_write G w v n k _ _ (within _ _ view (apply i d u early ok z q)) t e b = changed_either numbers (λ o. o ≡ Some e → ((w.stay n k).writes t ≡ Some e) ⊎ NewWrite G w v n k t e) (w.stay n k).writes i _ t
    (λ j a. inr (subst (λ (l : ℕ). NewWrite G w v n k l e) j (subst (NewWrite G w v n k i) (some_same a) (record { may = ok; nth = refl; early = q; is = z })))) (λ _ a. inl a) b
new_write G w v n k _ _ (within _ _ view (exchange ok)) t e a = inl a
new_write G w v n k _ _ (within _ _ view _) t e a = inl a
new_write G w v n k _ _ _ t e a = inl a

-- ---- numbers

pub record Named (G : Ground) (w : Picture) (n : ℕ) (k : ClusterKey) (p x : ℕ) : Type 0 where
  pub number : ℕ
  pub write : Applied
  pub made : (w.stay (view_master G k p) k).writes number ≡ Some write
  pub part : partition_of write.digest ≡ p
  pub nth : write.nth ≡ x
  pub replica : is_view_replica G k p n ≡ true
  pub other : n ≡ view_master G k p → ⊥

-- what the numbers tell: each is a write of the list master, which is held, or the merge of which is owed
pub record Hears (G : Ground) (w : Picture) (n : ℕ) (k : ClusterKey) (s : Stay) : Type 0 where
  pub named : (p x : ℕ) → contains (s.numbers p) x ≡ true → Named G w n k p x
  pub held : (t : ℕ) (e : Applied) → (w.stay (view_master G k (partition_of e.digest)) k).writes t ≡ Some e → contains (s.numbers (partition_of e.digest)) e.nth ≡ true
      → AtMost G.by (Some e.version) (s.held e.digest) ⊎ (w.owed ≡ Some (record { node = n; key = k; digest = e.digest; version = e.version }))

pub named_grows : (G : Ground) (w v : Picture) → Grows G.by w v → (n : ℕ) (k : ClusterKey) (p x : ℕ) → Named G w n k p x → Named G v n k p x
named_grows G w v g n k p x h = record { number = h.number; write = h.write; made = (g.stay (view_master G k p) k).writes h.number h.write h.made; part = h.part; nth = h.nth; replica = h.replica; other = h.other }

-- a write of the list master of which the number came stood before the line
pub old_write : (G : Ground) (w v : Picture) → Known G w → (n : ℕ) (k : ClusterKey) (m : ℕ) (x : Seen) (s : Stay) → Step G w v m k x s → (t : ℕ) (e : Applied) → m ≡ view_master G k (partition_of e.digest) → s.writes t ≡ Some e
    → Named G w n k (partition_of e.digest) e.nth → (w.stay m k).writes t ≡ Some e
old_write G w v a n k m x s c t e mm b h = ⊎_elim (λ z. z)
    (λ z. let q = (a.txns (view_master G k (partition_of e.digest)) k).nth h.number h.write h.made in absurd (omega (arith, q.1, h.nth, z.nth, ap (w.stay (view_master G k (partition_of e.digest)) k).applies h.part, ap (λ (i : ℕ). (w.stay i k).applies (partition_of e.digest)) mm)))
    (new_write G w v m k x s c t e b)

is_number : (ms : List ℕ) (n x : ℕ) → contains (with_number ms n) x ≡ true → (n ≡ x) ⊎ (contains ms x ≡ true)
is_number [] n x e = ⊎_elim (λ z. inl (number_same n x z)) (λ z. inr z) (or_cases (n == x) false e)
is_number (m ∷ ms) n x h = go (is_number ms n x) (n == m) (nat_lt n m) h
  where
    left : (a b : Bool) → a ≡ true → (a || b) ≡ true
    left a b e = grind arith

    right : (a b : Bool) → b ≡ true → (a || b) ≡ true
    right a b e = grind arith

    go : (contains (with_number ms n) x ≡ true → (n ≡ x) ⊎ (contains ms x ≡ true)) → (b c : Bool) → contains (if b then m ∷ ms else (if c then n ∷ m ∷ ms else (m ∷ with_number ms n))) x ≡ true → (n ≡ x) ⊎ (contains (m ∷ ms) x ≡ true)
    go rest true c e = inr e
    go rest false true e = ⊎_elim (λ z. inl (number_same n x z)) (λ z. inr z) (or_cases (n == x) (contains (m ∷ ms) x) e)
    go rest false false e = ⊎_elim (λ z. inr (left (m == x) (contains ms x) z)) (λ z. ⊎_elim inl (λ q. inr (right (m == x) (contains ms x) q)) (rest z)) (or_cases (m == x) (contains (with_number ms n) x) e)

is_heard : (b : Bool) (ms : List ℕ) (n x : ℕ) → contains (heard b ms n) x ≡ true → ((b ≡ true) × (n ≡ x)) ⊎ (contains ms x ≡ true)
is_heard true ms n x e = ⊎_elim (λ z. inl (refl, z)) inr (is_number ms n x e)
is_heard false ms n x e = inr e

-- ---- the invariant

-- where nothing is owed, all that was heard is held
now_held : (G : Ground) (w : Picture) (n : ℕ) (k : ClusterKey) (s : Stay) → w.owed ≡ None → Hears G w n k s → (t : ℕ) (e : Applied) → (w.stay (view_master G k (partition_of e.digest)) k).writes t ≡ Some e → contains (s.numbers (partition_of e.digest)) e.nth ≡ true → AtMost G.by (Some e.version) (s.held e.digest)
now_held G w n k s none h t e a c = ⊎_elim (λ z. z) (λ z. no_some (sym none ∙ z)) (h.held t e a c)

-- a number that a line adds
pub record NewNumber (G : Ground) (w v : Picture) (n : ℕ) (k : ClusterKey) (p x : ℕ) : Type 0 where
  pub from : ℕ
  pub digest : List ℕ
  pub version : Version
  pub came : WriteCame w n k from x digest version
  pub by_master : from ≡ view_master G k p
  pub part : partition_of digest ≡ p
  pub view : (w.node n).view ≡ Some k
  pub is : v ≡ changes.takes_write G n k from x digest version w

pub new_number : (G : Ground) (w v : Picture) (n : ℕ) (k : ClusterKey) (x : Seen) (s : Stay) → Step G w v n k x s → (p i : ℕ) → contains (s.numbers p) i ≡ true → (contains ((w.stay n k).numbers p) i ≡ true) ⊎ NewNumber G w v n k p i
new_number G w v n k _ _ (enter ok z) p i e = differ e refl
new_number G w v n k _ _ (within _ _ view (write r nth d u ok is)) p i e = changed_either numbers (λ ms. contains ms i ≡ true → (contains ((w.stay n k).numbers p) i ≡ true) ⊎ NewNumber G w v n k p i) (w.stay n k).numbers (partition_of d) _ p
    (λ j q. ⊎_elim
    (λ z. inr (subst (λ (l : ℕ). NewNumber G w v n k p l) z.1 (record {
      from = r;
      digest = d;
      version = u;
      came = ok;
      by_master = number_same r (view_master G k (partition_of d)) z.0 ∙ ap (view_master G k) j;
      part = j;
      view = view;
      is = is;
    })))
    (λ z. inl (subst (λ (l : ℕ). contains ((w.stay n k).numbers l) i ≡ true) j z)) (is_heard (r == view_master G k (partition_of d)) ((w.stay n k).numbers (partition_of d)) nth i q)) (λ _ q. inl q) e
new_number G w v n k _ _ (within _ _ view (exchange ok)) p i e = inl e
new_number G w v n k _ _ (within _ _ view _) p i e = inl e
new_number G w v n k _ _ _ p i e = inl e

-- what was owed is held after the line
abbrev pub Paid : Ground → Picture → Picture → Type 0
Paid G w v = (o : Owed) → w.owed ≡ Some o → AtMost G.by (Some o.version) ((v.stay o.node o.key).held o.digest)

abbrev pub AllHears : Ground → Picture → Type 0
AllHears G w = (n : ℕ) (k : ClusterKey) → Hears G w n k (w.stay n k)

new_named : (G : Ground) (w v : Picture) → Known G w → Grows G.by w v → (n : ℕ) (k : ClusterKey) (p x : ℕ) → NewNumber G w v n k p x → Named G v n k p x
new_named G w v a g n k p x z =
    let o : Wrote G w z.from n k z.came.number x z.digest z.version = a.says z.from n (message.Repl k z.came.number x z.digest z.version) z.came.came.sent in
    record {
      number = z.came.number;
      write = record { digest = z.digest; version = z.version; nth = x; early = o.early };
      made = (g.stay (view_master G k p) k).writes z.came.number _ (subst (λ (m : ℕ). (w.stay m k).writes z.came.number ≡ Some (record { digest = z.digest; version = z.version; nth = x; early = o.early })) z.by_master o.write);
      part = z.part;
      nth = refl;
      replica = subst (λ (q : ℕ). is_view_replica G k q n ≡ true) z.part o.replica;
      other = λ i. o.other (i ∙ sym z.by_master);
    }

pub hears_kept : (G : Ground) (w : Picture) (e : Effect) → Allowed G w e → Grows G.by w (act G e w) → Known G w → AllTxns (act G e w) → Paid G w (act G e w) → AllHears G w → AllHears G (act G e w)
hears_kept G w e ok g a ts paid h n k = record {
  named = λ p x c. ⊎_elim (λ z. named_grows G w v g n k p x ((h n k).named p x z)) (λ z. new_named G w v a g n k p x z) (new_number G w v n k _ _ (steps G w e ok n k) p x c);
  held = λ t f b c. ⊎_elim (λ z. inl (old t f b z)) (λ z. new t f b z) (new_number G w v n k _ _ (steps G w e ok n k) (partition_of f.digest) f.nth c);
}
  where
    v : Picture
    v = act G e w

    old : (t : ℕ) (f : Applied) → (v.stay (view_master G k (partition_of f.digest)) k).writes t ≡ Some f → contains ((w.stay n k).numbers (partition_of f.digest)) f.nth ≡ true → AtMost G.by (Some f.version) ((v.stay n k).held f.digest)
    old t f b c = ⊎_elim (λ z. AtMost_trans z ((g.stay n k).held f.digest)) (λ z. paid (record { node = n; key = k; digest = f.digest; version = f.version }) z)
        ((h n k).held t f (old_write G w v a n k (view_master G k (partition_of f.digest)) _ _ (steps G w e ok (view_master G k (partition_of f.digest)) k) t f refl b ((h n k).named (partition_of f.digest) f.nth c)) c)

    new : (t : ℕ) (f : Applied) → (v.stay (view_master G k (partition_of f.digest)) k).writes t ≡ Some f → NewNumber G w v n k (partition_of f.digest) f.nth
        → AtMost G.by (Some f.version) ((v.stay n k).held f.digest) ⊎ (v.owed ≡ Some (record { node = n; key = k; digest = f.digest; version = f.version }))
    new t f b z = subst (λ (q : Applied). AtMost G.by (Some q.version) ((v.stay n k).held q.digest) ⊎ (v.owed ≡ Some (record { node = n; key = k; digest = q.digest; version = q.version }))) same_write (go (is_newer G.by z.version ((w.node n).content z.digest)) refl)
      where
        o : Wrote G w z.from n k z.came.number f.nth z.digest z.version
        o = a.says z.from n (message.Repl k z.came.number f.nth z.digest z.version) z.came.came.sent

        that : Applied
        that = record { digest = z.digest; version = z.version; nth = f.nth; early = o.early }

        made : (v.stay (view_master G k (partition_of f.digest)) k).writes z.came.number ≡ Some that
        made = (g.stay (view_master G k (partition_of f.digest)) k).writes z.came.number _ (subst (λ (m : ℕ). (w.stay m k).writes z.came.number ≡ Some that) z.by_master o.write)

        same_write : that ≡ f
        same_write = some_same (sym made ∙ (ap (v.stay (view_master G k (partition_of f.digest)) k).writes ((ts (view_master G k (partition_of f.digest)) k).once z.came.number t that f made b z.part refl) ∙ b))

        go : (q : Bool) → is_newer G.by z.version ((w.node n).content z.digest) ≡ q → AtMost G.by (Some z.version) ((v.stay n k).held z.digest) ⊎ (v.owed ≡ Some (record { node = n; key = k; digest = z.digest; version = z.version }))
        go true i = inr (ap (λ (y : Picture). y.owed) z.is ∙ ap (λ (holds : Bool). if holds then Some (record { node = n; key = k; digest = z.digest; version = z.version }) else None) i)
        go false i = inl (AtMost_trans (not_newer_AtMost z.version ((w.node n).content z.digest) i) (AtMost_trans ((a.inside n k z.view).held z.digest) ((g.stay n k).held z.digest)))

pub hears_start : (G : Ground) → AllHears G start
hears_start G n k = record { named = λ p x c. differ c refl; held = λ t e b. no_some b }
