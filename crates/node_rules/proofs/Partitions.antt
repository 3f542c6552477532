-- What is told of many partitions, against what holds of each.
use Rattle.std.proofs.Common.{◌≡◌, ◌≢◌, ◌↔◌, ℕ, zero, suc, ◌+◌, ◌<◌, ◌≤◌, Bool, true, false, not, ◌||◌, List, ◌∷◌, length, All, AllPairs, refl, sym, ap, subst, ◌∙◌, arith, inl, inr}
use Rattle.std.proofs.lemmas.Bool.{false≢true}
use Rattle.std.proofs.lemmas.Bool.Decides.{eqb_tells}
use Rattle.cluster_types.specs.declared.copy_state.CopyState.{CopyState}
use Rattle.cluster_types.specs.declared.copy_state.CopyState.TheVariants.{Empty, Part, Whole}
use Rattle.cluster_types.specs.Partitions.{partition_count}
use Rattle.cluster_types.specs.Rows.{bit}
use Rattle.cluster_types.specs.StateRows.{IsStateRow, state_of}
use Rattle.cluster_types.proofs.BoolFacts.{and_left as left, and_right as right, and_both as both, not_true as none_owed}
use Rattle.node_rules.specs.Copies.{Row, Store, store_state, with_state, row_from}
use Rattle.node_rules.specs.Facts.{Facts, list_at}
use Rattle.node_rules.specs.Map.{is_empty}
use Rattle.node_rules.specs.Standing.{is_done, knows_settled, knows_all_settled, is_to_learn, is_to_drop, has_nothing_to_learn_or_drop}
use Rattle.node_rules.specs.Tick.{done_from}

-- ---- rows

-- an entry of another partition is passed over
other_state : (p q : ℕ) (state : CopyState) (row : Row) → p ≢ q → state_of (with_state p state row) q ≡ state_of row q
other_state p q Empty row differ = refl
other_state p q Part row differ = elim (eqb_tells p q) [ inl same ↦ absurd (differ same.1) | inr other ↦ rw other.0 refl ]
other_state p q (Whole key writes) row differ = elim (eqb_tells p q) [ inl same ↦ absurd (differ same.1) | inr other ↦ rw other.0 refl ]

own_state : (p : ℕ) (state : CopyState) (row : Row) → state_of row p ≡ Empty → state_of (with_state p state row) p ≡ state
own_state p Empty row none = none
own_state p Part row none = elim (eqb_tells p p) [ inl same ↦ rw same.0 refl | inr other ↦ absurd (other.1 refl) ]
own_state p (Whole key writes) row none = elim (eqb_tells p p) [ inl same ↦ rw same.0 refl | inr other ↦ absurd (other.1 refl) ]

-- a row from one partition on says nothing of a lower one
lower_state : (s : Store) (n p q : ℕ) → q < p → state_of (row_from s n p) q ≡ Empty
unfolding row_from
lower_state s zero p q lower = refl
lower_state s (suc n) p q lower =
    other_state p q (store_state s p) (row_from s n (p + 1)) (λ e. absurd (omega (arith, lower, e)))
    ∙ lower_state s n (p + 1) q (omega (arith, lower))

state_from : (s : Store) (n p q : ℕ) → p ≤ q → q < p + n → state_of (row_from s n p) q ≡ store_state s q
unfolding row_from
state_from s zero p q low high = absurd (omega (arith, low, high))
state_from s (suc n) p q low high = elim (eqb_tells p q) [
  | inl same ↦
      subst (λ r. state_of (with_state p (store_state s p) (row_from s n (p + 1))) r ≡ store_state s r) same.1
      (own_state p (store_state s p) (row_from s n (p + 1)) (lower_state s n (p + 1) p (omega arith)))
  | inr other ↦
      other_state p q (store_state s p) (row_from s n (p + 1)) other.1
      ∙ state_from s n (p + 1) q (let above : p + 1 ≤ q = grind (arith, low, other.1) in above) (omega (arith, high))
]

pub row_tells : (s : Store) (n p : ℕ) → p < n → state_of (row_from s n 0) p ≡ store_state s p
row_tells s n p lower = state_from s n 0 p (omega arith) (omega (arith, lower))

all_cons : {A : Type 0} (P : A → Type 0) (x : A) (xs : List A) → P x → All P xs → All P (x ∷ xs)
all_cons P x xs h hs zero d within = h
all_cons P x xs h hs (suc k) d within = hs k d (omega (arith, within))

pairs_cons : {A : Type 0} (R : A → A → Type 0) (x : A) (xs : List A) → All (R x) xs → AllPairs R xs → AllPairs R (x ∷ xs)
pairs_cons R x xs h hs zero zero d lower within = absurd (omega (arith, lower))
pairs_cons R x xs h hs zero (suc k) d lower within = h k d (omega (arith, within))
pairs_cons R x xs h hs (suc j) zero d lower within = absurd (omega (arith, lower))
pairs_cons R x xs h hs (suc j) (suc k) d lower within = hs j k d (omega (arith, lower)) (omega (arith, within))

-- the entries from one partition on, of that many
record IsRowFrom (n p : ℕ) (row : Row) : Type 0 where
  rising : AllPairs (λ d e. d.0 < e.0) row
  above : All (λ e. p ≤ e.0) row
  below : All (λ e. e.0 < p + n) row
  none_empty : All (λ e. e.1 ≢ Empty) row

Part-kept : Part ≢ Empty
Part-kept e = false≢true (ap is_empty e)

longer : (n p : ℕ) (row : Row) → IsRowFrom n (p + 1) row → IsRowFrom (suc n) p row
longer n p row h = record {
  rising = h.rising;
  above = λ k d within. omega (arith, h.above k d within);
  below = λ k d within. omega (arith, h.below k d within);
  none_empty = h.none_empty;
}

with_first : (n p : ℕ) (state : CopyState) (row : Row) → state ≢ Empty → IsRowFrom n (p + 1) row → IsRowFrom (suc n) p ((p, state) ∷ row)
with_first n p state row kept h = record {
  rising = pairs_cons (λ d e. d.0 < e.0) (p, state) row (λ k d within. omega (arith, h.above k d within)) h.rising;
  above = all_cons (λ e. p ≤ e.0) (p, state) row (omega arith) (λ k d within. omega (arith, h.above k d within));
  below = all_cons (λ e. e.0 < p + suc n) (p, state) row (omega arith) (λ k d within. omega (arith, h.below k d within));
  none_empty = all_cons (λ e. e.1 ≢ Empty) (p, state) row kept h.none_empty;
}

with_state-IsRowFrom : (n p : ℕ) (state : CopyState) (row : Row) → IsRowFrom n (p + 1) row → IsRowFrom (suc n) p (with_state p state row)
with_state-IsRowFrom n p Empty row h = longer n p row h
with_state-IsRowFrom n p Part row h = with_first n p Part row Part-kept h
with_state-IsRowFrom n p (Whole key writes) row h = with_first n p (Whole key writes) row (λ e. false≢true (ap is_empty e)) h

row_from-IsRowFrom : (s : Store) (n p : ℕ) → IsRowFrom n p (row_from s n p)
unfolding row_from
row_from-IsRowFrom s zero p = record {
  rising = λ j k d lower within. absurd (omega (arith, within));
  above = λ k d within. absurd (omega (arith, within));
  below = λ k d within. absurd (omega (arith, within));
  none_empty = λ k d within. absurd (omega (arith, within));
}
row_from-IsRowFrom s (suc n) p = with_state-IsRowFrom n p (store_state s p) (row_from s n (p + 1)) (row_from-IsRowFrom s n (p + 1))

pub row_is_row : (s : Store) (n : ℕ) → n ≤ partition_count → IsStateRow (row_from s n 0)
row_is_row s n few =
    let h = row_from-IsRowFrom s n 0 in
    record { rising = h.rising; partitions = λ k d within. omega (arith, few, h.below k d within); none_empty = h.none_empty }

-- ---- bits

done_at : (f : Facts) (n p i : ℕ) → i < n → bit (done_from f n p) i ≡ is_done f (p + i)
unfolding done_from
done_at f zero p i lower = absurd (omega (arith, lower))
done_at f (suc n) p zero lower = ap (is_done f) (let same : p ≡ p + 0 = omega arith in same)
done_at f (suc n) p (suc i) lower = done_at f n (p + 1) i (omega (arith, lower)) ∙ ap (is_done f) (let same : (p + 1) + i ≡ p + suc i = omega arith in same)

pub done_tells : (f : Facts) (n p : ℕ) → p < n → bit (done_from f n 0) p ≡ is_done f p
done_tells f n p lower = done_at f n 0 p lower ∙ ap (is_done f) (let same : 0 + p ≡ p = omega arith in same)

pub done_length : (f : Facts) (n p : ℕ) → length (done_from f n p) ≡ n
unfolding done_from
done_length f zero p = refl
done_length f (suc n) p = let rest : length (done_from f n (p + 1)) ≡ n = done_length f n (p + 1) in omega (arith, rest)

-- ---- what is known of all

known_at : (f : Facts) (n p i : ℕ) → knows_all_settled f n p ≡ true → i < n → knows_settled f (p + i) ≡ true
unfolding knows_all_settled
known_at f zero p i all lower = absurd (omega (arith, lower))
known_at f (suc n) p zero all lower = ap (knows_settled f) (let same : p + 0 ≡ p = omega arith in same) ∙ left (knows_settled f p) (knows_all_settled f n (p + 1)) all
known_at f (suc n) p (suc i) all lower =
    ap (knows_settled f) (let same : p + suc i ≡ (p + 1) + i = omega arith in same)
    ∙ known_at f n (p + 1) i (right (knows_settled f p) (knows_all_settled f n (p + 1)) all) (omega (arith, lower))

known_all : (f : Facts) (n p : ℕ) → ((i : ℕ) → i < n → knows_settled f (p + i) ≡ true) → knows_all_settled f n p ≡ true
unfolding knows_all_settled
known_all f zero p each = refl
known_all f (suc n) p each =
    both (knows_settled f p) (knows_all_settled f n (p + 1))
    (ap (knows_settled f) (let same : p ≡ p + 0 = omega arith in same) ∙ each 0 (omega arith))
    (known_all f n (p + 1) (λ i lower. ap (knows_settled f) (let same : (p + 1) + i ≡ p + suc i = omega arith in same) ∙ each (suc i) (omega (arith, lower))))

zero_plus : (p : ℕ) → 0 + p ≡ p
zero_plus p = omega arith

pub settled_tells : (f : Facts) (n : ℕ) → (knows_all_settled f n 0 ≡ true) ↔ ((p : ℕ) → p < n → knows_settled f p ≡ true)
settled_tells f n = (λ all p lower. ap (knows_settled f) (sym (zero_plus p)) ∙ known_at f n 0 p all lower, λ each. known_all f n 0 (λ i lower. ap (knows_settled f) (zero_plus i) ∙ each i lower))

-- ---- what is to be learnt or dropped

-- whether something of the partition is to be learnt or dropped
abbrev is_owed : Facts → ℕ → Bool
is_owed f p = is_to_learn f (list_at f p) p || is_to_drop f (list_at f p) p

owed_at : (f : Facts) (n p i : ℕ) → has_nothing_to_learn_or_drop f n p ≡ true → i < n → is_owed f (p + i) ≡ false
unfolding has_nothing_to_learn_or_drop
owed_at f zero p i all lower = absurd (omega (arith, lower))
owed_at f (suc n) p zero all lower = ap (is_owed f) (let same : p + 0 ≡ p = omega arith in same) ∙ none_owed (is_owed f p) (left (not (is_owed f p)) (has_nothing_to_learn_or_drop f n (p + 1)) all)
owed_at f (suc n) p (suc i) all lower =
    ap (is_owed f) (let same : p + suc i ≡ (p + 1) + i = omega arith in same)
    ∙ owed_at f n (p + 1) i (right (not (is_owed f p)) (has_nothing_to_learn_or_drop f n (p + 1)) all) (omega (arith, lower))

nothing_owed : (f : Facts) (n p : ℕ) → ((i : ℕ) → i < n → is_owed f (p + i) ≡ false) → has_nothing_to_learn_or_drop f n p ≡ true
unfolding has_nothing_to_learn_or_drop
nothing_owed f zero p each = refl
nothing_owed f (suc n) p each =
    both (not (is_owed f p)) (has_nothing_to_learn_or_drop f n (p + 1))
    (ap not (ap (is_owed f) (let same : p ≡ p + 0 = omega arith in same) ∙ each 0 (omega arith)))
    (nothing_owed f n (p + 1) (λ i lower. ap (is_owed f) (let same : (p + 1) + i ≡ p + suc i = omega arith in same) ∙ each (suc i) (omega (arith, lower))))

neither : (a b : Bool) → (a || b) ≡ false → (a ≡ false) × (b ≡ false)
neither true b e = (e, cc)
neither false b e = (refl, e)

none_of : (a b : Bool) → (a ≡ false) × (b ≡ false) → (a || b) ≡ false
none_of true b e = e.0
none_of false b e = e.1

pub rest_tells : (f : Facts) (n : ℕ) → (has_nothing_to_learn_or_drop f n 0 ≡ true) ↔ ((p : ℕ) → p < n → (is_to_learn f (list_at f p) p ≡ false) × (is_to_drop f (list_at f p) p ≡ false))
rest_tells f n = (
  λ all p lower. neither (is_to_learn f (list_at f p) p) (is_to_drop f (list_at f p) p) (ap (is_owed f) (sym (zero_plus p)) ∙ owed_at f n 0 p all lower),
  λ each. nothing_owed f n 0 (λ i lower. ap (is_owed f) (zero_plus i) ∙ none_of (is_to_learn f (list_at f i) i) (is_to_drop f (list_at f i) i) (each i lower)),
)
