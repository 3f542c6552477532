-- Rows of states, copies and lists of digests, as the calls make them.
use Rattle.std.proofs.Common.{◌≡◌, ℕ, zero, suc, ◌+◌, ◌-◌, ◌<◌, ◌≤◌, cond, ◌==◌, List, [], ◌∷◌, ◌++◌, map, take, All, Some, None, Result, Ok, Err, OnOk, OnErr, subst, refl, sym, ap, ◌∙◌, inl, inr, arith, append_assoc, append-nil}
use Rattle.std.proofs.lemmas.Bool.Decides.{eqb_tells}
use Rattle.std.proofs.lemmas.List.Elements.{All-push}
use Rattle.cluster_types.specs.declared.cluster_key.ClusterKey.{ClusterKey}
use Rattle.cluster_types.specs.Copies.{state_with}
use Rattle.cluster_types.specs.StateRows.{state_of}
use Rattle.cluster_types.specs.declared.copy_state.CopyState.{CopyState}
use Rattle.cluster_types.specs.declared.copy_state.CopyState.TheVariants.{Empty, Part, Whole}
use Rattle.record_store.specs.Copies.{Entries}

-- the state of a copy that has records
pub part_state : (es : Entries) → (es ≡ [] → ⊥) → Part ≡ state_with (map (λ e. e.0) es) None
part_state [] some = absurd (some refl)
part_state (e ∷ es) some = refl

pub whole_state : (es : Entries) (stamp : ClusterKey × ℕ) → (es ≡ [] → ⊥) → Whole stamp.0 stamp.1 ≡ state_with (map (λ e. e.0) es) (Some stamp)
whole_state [] stamp some = absurd (some refl)
whole_state (e ∷ es) stamp some = refl

tail_below : (e : ℕ × CopyState) (row : List (ℕ × CopyState)) (p : ℕ) → All (λ e. e.0 < p) (e ∷ row) → All (λ e. e.0 < p) row
tail_below e row p h j d inside = h (suc j) d (omega (arith, inside))

-- a row has no state above its entries
pub state_above : (row : List (ℕ × CopyState)) (p q : ℕ) → All (λ e. e.0 < p) row → p ≤ q → state_of row q ≡ Empty
state_above [] p q h upto = refl
state_above (e ∷ row) p q h upto = elim (eqb_tells e.0 q) as (λ _. state_of (e ∷ row) q ≡ Empty) [
  | inl same ↦ absurd (omega (arith, h 0 e (omega arith), same.1, upto))
  | inr other ↦ ap (λ b. cond b e.1 (state_of row q)) other.0 ∙ state_above row p q (tail_below e row p h) upto
]

pub state_same : (row : List (ℕ × CopyState)) (p q : ℕ) (state : CopyState) → All (λ e. e.0 < p) row → state ≡ Empty → state_of row q ≡ cond (p == q) state (state_of row q)
state_same row p q state h empty = elim (eqb_tells p q) as (λ _. state_of row q ≡ cond (p == q) state (state_of row q)) [
  | inl same ↦ state_above row p q h (omega (arith, same.1)) ∙ sym empty ∙ sym (ap (λ b. cond b state (state_of row q)) same.0)
  | inr other ↦ sym (ap (λ b. cond b state (state_of row q)) other.0)
]

-- an entry above all others
pub state_pushed : (row : List (ℕ × CopyState)) (p q : ℕ) (state : CopyState) → All (λ e. e.0 < p) row → state_of (row ++ (p, state) ∷ []) q ≡ cond (p == q) state (state_of row q)
state_pushed [] p q state h = refl
state_pushed (e ∷ row) p q state h = elim (eqb_tells e.0 q) as (λ _. state_of ((e ∷ row) ++ (p, state) ∷ []) q ≡ cond (p == q) state (state_of (e ∷ row) q)) [
  | inl same ↦
      ap (λ b. cond b e.1 (state_of (row ++ (p, state) ∷ []) q)) same.0
      ∙ elim (eqb_tells p q) as (λ _. e.1 ≡ cond (p == q) state (state_of (e ∷ row) q)) [
        | inl both ↦ absurd (omega (arith, h 0 e (omega arith), same.1, both.1))
        | inr other ↦ sym (ap (λ b. cond b state (state_of (e ∷ row) q)) other.0 ∙ ap (λ b. cond b e.1 (state_of row q)) same.0)
      ]
  | inr other ↦
      ap (λ b. cond b e.1 (state_of (row ++ (p, state) ∷ []) q)) other.0
      ∙ state_pushed row p q state (tail_below e row p h)
      ∙ ap (cond (p == q) state) (sym (ap (λ b. cond b e.1 (state_of row q)) other.0))
]

-- what an addition that may fail leaves
pub added : {E : Type 0} (r : Result (Unit {0}) E) (old new : List (ℕ × CopyState)) (p : ℕ) (state : CopyState) → All (λ e. e.0 < p) old
    → OnOk r (new ≡ old ++ (p, state) ∷ []) → OnErr r (new ≡ old)
    → record { below : All (λ e. e.0 < p + 1) new; states : OnOk r ((q : ℕ) → state_of new q ≡ cond (p == q) state (state_of old q)) }
added (Ok u) old new p state h ok err = record {
  below = subst (All (λ e. e.0 < p + 1)) (sym ok) (All-push (λ (e : ℕ × CopyState). e.0 < p + 1) old (p, state) (λ j d inside. omega (arith, h j d inside)) (omega arith));
  states = λ q. ap (λ row. state_of row q) ok ∙ state_pushed old p q state h;
}
added (Err e) old new p state h ok err = record {
  below = subst (All (λ e. e.0 < p + 1)) (sym err) (λ j d inside. omega (arith, h j d inside));
  states = tt;
}

-- a loop that takes the first elements
pub taken_more : (n i : ℕ) (done rest : List (List ℕ)) (x : List ℕ) → i < n → done ++ take (n - i) (x ∷ rest) ≡ (done ++ x ∷ []) ++ take (n - (i + 1)) rest
taken_more n i done rest x before = ap (λ m. done ++ take m (x ∷ rest)) (let more : n - i ≡ suc (n - (i + 1)) = omega (arith, before) in more) ∙ sym (append_assoc done (x ∷ []) (take (n - (i + 1)) rest))
