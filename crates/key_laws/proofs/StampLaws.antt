-- The keys of stamps and of rows.
use Rattle.std.proofs.Common.{◌≡◌, ℕ, zero, suc, ◌+◌, Bool, true, false, cond, List, [], ◌∷◌, Option, Some, None, refl, sym, subst, ◌∙◌, arith, if◌then◌else◌}
use Rattle.std.specs.FinMap as finite
use Rattle.std.specs.FinMap.{get-insert, get-remove}
use Rattle.std.specs.Ordering.{nat_cmp, eq_by_cmp}
use Rattle.std.proofs.lemmas.Cmp.{nat_cmp_total}
use Rattle.cluster_types.specs.declared.cluster_key.ClusterKey.{ClusterKey}
use Rattle.cluster_types.specs.declared.copy_state.CopyState.{CopyState}
use Rattle.cluster_types.specs.declared.copy_state.CopyState.TheVariants.{Empty, Part, Whole}
use Rattle.node_rules.specs.Copies.{Store, Stamp, Stamps, Row, digests_of, state_with, store_state, with_state, row_from}
use Rattle.node_rules.specs.Facts.{Facts, list_at}
use Rattle.node_rules.specs.Keys.{same_key}
use Rattle.node_rules.specs.Notes.{stamped_if, stamped_at, count_in}
use Rattle.node_rules.specs.Stamps.{recounted, spoiled, changed_stamps, no_class}
use Rattle.node_rules.specs.Standing.{is_all_empty, is_own_replica}
use Rattle.std.specs.Prelude.{◌&&◌}
use Rattle.node_rules.specs.ViewNotes.{stamped_from}
use Rattle.key_laws.specs.Traced.{Traced}
use Rattle.key_laws.specs.Licences.{IsPromisedKey, CopyOf, RowOf}
use Rattle.key_laws.specs.Sound.{StampsKnown}

some_same : {A : Type 0} (a b : A) → Some a ≡ Some b → a ≡ b
some_same a b e = grind arith

none_some : {A B : Type 0} (a : A) → None ≡ Some a → B
none_some a e = absurd (grind arith)

-- ---- stamps

pub stamps_with : (t : Traced) (stamps : Stamps) (p : ℕ) (x : Stamp) → IsPromisedKey t x.0 → StampsKnown t stamps → StampsKnown t (finite.insert stamps p x)
stamps_with t stamps p x k h = record { each = λ q s e. go q s (eq_by_cmp nat_cmp q p) (sym (get-insert nat_cmp_total stamps p x q) ∙ e) }
  where
    go : (q : ℕ) (s : Stamp) (b : Bool) → cond b (Some x) (finite.get stamps q) ≡ Some s → IsPromisedKey t s.0
    go q s true e = subst (λ (y : Stamp). IsPromisedKey t y.0) (some_same x s e) k
    go q s false e = h.each q s e

pub stamps_without : (t : Traced) (stamps : Stamps) (p : ℕ) → StampsKnown t stamps → StampsKnown t (finite.remove stamps p)
stamps_without t stamps p h = record { each = λ q s e. go q s (eq_by_cmp nat_cmp q p) (sym (get-remove nat_cmp_total stamps p q) ∙ e) }
  where
    go : (q : ℕ) (s : Stamp) (b : Bool) → cond b None (finite.get stamps q) ≡ Some s
        → IsPromisedKey t s.0
    go q s true e = none_some s e
    go q s false e = h.each q s e

pub recounted_known : (t : Traced) (k : ClusterKey) (count : ℕ) (x : Stamp) → IsPromisedKey t k → IsPromisedKey t x.0 → IsPromisedKey t (recounted k count x).0
recounted_known t k count x h i = go (same_key x.0 k)
  where
    go : (b : Bool) → IsPromisedKey t (if b then (k, count) else x).0
    go true = h
    go false = i

pub spoiled_known : (t : Traced) (k : ClusterKey) (x : Stamp) → IsPromisedKey t x.0 → IsPromisedKey t (spoiled k x).0
spoiled_known t k x i = go (same_key x.0 k)
  where
    go : (b : Bool) → IsPromisedKey t (if b then x else (x.0, no_class)).0
    go true = i
    go false = i

pub stamps_changed : (t : Traced) (s : Store) (p : ℕ) (change : Stamp → Stamp) → ((x : Stamp) → IsPromisedKey t x.0 → IsPromisedKey t (change x).0) → StampsKnown t s.stamps → StampsKnown t (changed_stamps s.stamps p change (finite.get s.stamps p))
stamps_changed t s p change f h = go (finite.get s.stamps p) refl
  where
    go : (o : Option Stamp) → finite.get s.stamps p ≡ o → StampsKnown t (changed_stamps s.stamps p change o)
    go None e = h
    go (Some x) e = stamps_with t s.stamps p (change x) (f x (h.each p x e)) h

stamped_if_known : (t : Traced) (f : Facts) (k : ClusterKey) (l : List ℕ) (p : ℕ) (stamps : Stamps) (b : Bool) → IsPromisedKey t k → StampsKnown t stamps → StampsKnown t (stamped_if f k l p stamps b)
stamped_if_known t f k l p stamps true h i = stamps_with t stamps p (k, count_in f l p) h i
stamped_if_known t f k l p stamps false h i = i

pub stamped_known : (t : Traced) (f : Facts) (k : ClusterKey) (stamps : Stamps) (n p : ℕ) → IsPromisedKey t k → StampsKnown t stamps → StampsKnown t (stamped_from f k stamps n p)
unfolding stamped_from
stamped_known t f k stamps zero p h i = i
stamped_known t f k stamps (suc n) p h i =
    stamped_known t f k (stamped_at f k (list_at f p) p stamps) n (p + 1) h (stamped_if_known t f k (list_at f p) p stamps (is_all_empty f p && is_own_replica f (list_at f p)) h i)

-- ---- rows

state_known : (t : Traced) (ds : List (List ℕ)) (o : Option Stamp) → ((s : Stamp) → o ≡ Some s → IsPromisedKey t s.0) → CopyOf (λ k. IsPromisedKey t k) (state_with ds o)
state_known t [] o h = tt
state_known t (d ∷ ds) None h = tt
state_known t (d ∷ ds) (Some x) h = h x refl

with_state_known : (t : Traced) (p : ℕ) (c : CopyState) (row : Row) → CopyOf (λ k. IsPromisedKey t k) c → RowOf (λ k. IsPromisedKey t k) row → RowOf (λ k. IsPromisedKey t k) (with_state p c row)
with_state_known t p Empty row h i = i
with_state_known t p Part row h i = (h, i)
with_state_known t p (Whole k writes) row h i = (h, i)

pub row_known : (t : Traced) (s : Store) (n p : ℕ) → StampsKnown t s.stamps → RowOf (λ k. IsPromisedKey t k) (row_from s n p)
unfolding row_from
row_known t s zero p h = tt
row_known t s (suc n) p h = with_state_known t p (store_state s p) (row_from s n (p + 1)) (state_known t (digests_of s.content p) (finite.get s.stamps p) (λ x e. h.each p x e)) (row_known t s n (p + 1) h)
