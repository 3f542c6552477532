-- Rows of states are the same where each partition has the same state in both.
use Rattle.std.proofs.Common.{◌≡◌, ◌≢◌, ℕ, zero, suc, ◌<◌, cond, List, [], ◌∷◌, All, AllPairs, refl, sym, ap, ◌∙◌, inl, inr, arith}
use Rattle.std.proofs.lemmas.Bool.{cases_lt}
use Rattle.std.proofs.lemmas.Bool.Decides.{eqb_tells}
use Rattle.cluster_types.specs.declared.copy_state.CopyState.{CopyState}
use Rattle.cluster_types.specs.declared.copy_state.CopyState.TheVariants.{Empty}
use Rattle.cluster_types.specs.Partitions.{partition_count}
use Rattle.cluster_types.specs.StateRows.{IsStateRow, state_of}
use Rattle.record_store.proofs.RowLaws.{state_above}

abbrev Row : Type 0
Row = List (ℕ × CopyState)

state_here : (e : ℕ × CopyState) (row : Row) → state_of (e ∷ row) e.0 ≡ e.1
state_here e row = elim (eqb_tells e.0 e.0) as (λ _. state_of (e ∷ row) e.0 ≡ e.1) [
  | inl same ↦ ap (λ b. cond b e.1 (state_of row e.0)) same.0
  | inr other ↦ absurd (other.1 refl)
]

state_later : (e : ℕ × CopyState) (row : Row) (p : ℕ) → e.0 ≢ p → state_of (e ∷ row) p ≡ state_of row p
state_later e row p apart = elim (eqb_tells e.0 p) as (λ _. state_of (e ∷ row) p ≡ state_of row p) [
  | inl same ↦ absurd (apart same.1)
  | inr other ↦ ap (λ b. cond b e.1 (state_of row p)) other.0
]

-- below its entries a row has no state
state_below : (row : Row) (p : ℕ) → All (λ e. p < e.0) row → state_of row p ≡ Empty
state_below [] p h = refl
state_below (e ∷ row) p h = state_later e row p (λ same. omega (arith, h 0 e (omega arith), same)) ∙ state_below row p (λ j d inside. h (suc j) d (omega (arith, inside)))

-- what of a row the proof takes: that it rises, and has no entry that is Empty
record IsFull (row : Row) : Type 0 where
  rising : AllPairs (λ d e. d.0 < e.0) row
  full : All (λ e. e.1 ≢ Empty) row

tail_full : (e : ℕ × CopyState) (row : Row) → IsFull (e ∷ row) → IsFull row
tail_full e row h = record {
  rising = λ j k d lower inside. h.rising (suc j) (suc k) d (omega (arith, lower)) (omega (arith, inside));
  full = λ j d inside. h.full (suc j) d (omega (arith, inside));
}

above_head : (e : ℕ × CopyState) (row : Row) → IsFull (e ∷ row) → All (λ f. e.0 < f.0) row
above_head e row h j d inside = h.rising 0 (suc j) d (omega arith) (omega (arith, inside))

-- an entry whose partition has no state in the other row
lone : (d : ℕ × CopyState) (row other : Row) → IsFull (d ∷ row) → state_of (d ∷ row) d.0 ≡ state_of other d.0 → All (λ e. d.0 < e.0) other → ⊥
lone d row other h is above = h.full 0 d (omega arith) (sym (state_here d row) ∙ is ∙ state_below other d.0 above)

from_head : (n : ℕ) (e : ℕ × CopyState) (row : Row) → IsFull (e ∷ row) → n < e.0 → All (λ f. n < f.0) (e ∷ row)
from_head n e row h below zero d inside = below
from_head n e row h below (suc j) d inside = omega (arith, below, above_head e row h j d (omega (arith, inside)))

tails_alike : (d e : ℕ × CopyState) (r s : Row) → IsFull (d ∷ r) → IsFull (e ∷ s) → d.0 ≡ e.0 → ((p : ℕ) → state_of (d ∷ r) p ≡ state_of (e ∷ s) p) → (p : ℕ) → state_of r p ≡ state_of s p
tails_alike d e r s g h same is p = elim (eqb_tells d.0 p) as (λ _. state_of r p ≡ state_of s p) [
  | inl here ↦
      state_below r p (λ j z inside. omega (arith, above_head d r g j z inside, here.1))
      ∙ sym (state_below s p (λ j z inside. omega (arith, above_head e s h j z inside, here.1, same)))
  | inr apart ↦ sym (state_later d r p apart.1) ∙ is p ∙ state_later e s p (λ there. apart.1 (same ∙ there))
]

alike : (r s : Row) → IsFull r → IsFull s → ((p : ℕ) → state_of r p ≡ state_of s p) → r ≡ s
alike [] [] g h is = refl
alike [] (e ∷ s) g h is = absurd (lone e s [] h (sym (is e.0)) (λ j z inside. absurd (omega arith)))
alike (d ∷ r) [] g h is = absurd (lone d r [] g (is d.0) (λ j z inside. absurd (omega arith)))
alike (d ∷ r) (e ∷ s) g h is = elim (eqb_tells d.0 e.0) as (λ _. d ∷ r ≡ e ∷ s) [
  | inl same ↦
      let states : d.1 ≡ e.1 = sym (state_here d r) ∙ is d.0 ∙ ap (state_of (e ∷ s)) same.1 ∙ state_here e s in
      let rest = alike r s (tail_full d r g) (tail_full e s h) (tails_alike d e r s g h same.1 is) in
      λ i. (same.1 i, states i) ∷ rest i
  | inr apart ↦ elim (cases_lt d.0 e.0) as (λ _. d ∷ r ≡ e ∷ s) [
    | inl lower ↦ absurd (lone d r (e ∷ s) g (is d.0) (from_head d.0 e s h lower))
    | inr upper ↦ absurd (lone e s (d ∷ r) h (sym (is e.0)) (from_head e.0 d r g (omega (arith, upper, apart.1))))
  ]
]

-- two rows with the same state of each partition are the same
pub same_rows : (r s : Row) → IsStateRow r → IsStateRow s → ((p : ℕ) → p < partition_count → state_of r p ≡ state_of s p) → r ≡ s
same_rows r s g h is =
    alike r s (record { rising = g.rising; full = g.none_empty }) (record { rising = h.rising; full = h.none_empty })
    (λ p. elim (cases_lt p partition_count) as (λ _. state_of r p ≡ state_of s p) [
      | inl within ↦ is p within
      | inr past ↦ state_above r partition_count p g.partitions past ∙ sym (state_above s partition_count p h.partitions past)
    ])
