-- The entries of a row of states.
use Rattle.std.proofs.Common.{◌≡◌, ◌≢◌, ℕ, ◌<◌, ◌≤◌, List, [], ◌∷◌, length, get_or, All, AllPairs, Result, Ok, Err, IfSome, IfNone, refl, sym, ap, arith, zero, suc, inl, inr}
use Rattle.std.proofs.lemmas.Bool.Decides.{eqb_tells, nat_tests}
use Rattle.std.proofs.lemmas.Bool.{cases_lt}
use Rattle.std.proofs.lemmas.Cmp.{ranked}
use Rattle.std.specs.Result.{result_ok}
use Rattle.std.specs.List.Sorted.{IsSearchInRange, IsBinarySearchResult}
use Rattle.std.specs.Ordering.{nat_cmp, ordering_index}
use Rattle.std.specs.declared.cmp.Ordering.TheVariants.{Less, Equal, Greater}
use Rattle.cluster_types.specs.StateRows.{IsStateRow, IsPlaceOf, state_of}
use Rattle.cluster_types.specs.declared.copy_state.CopyState.{CopyState}
use Rattle.cluster_types.specs.declared.copy_state.CopyState.TheVariants.{Empty}

-- the state of an entry's partition is the entry's
pub state_at : (row : List (ℕ × CopyState)) (i p : ℕ) (d : ℕ × CopyState) → AllPairs (λ e f. e.0 < f.0) row → i < length row → (get_or row i d).0 ≡ p → state_of row p ≡ (get_or row i d).1
state_at [] i p d rising within here = absurd (omega arith)
state_at (e ∷ row) zero p d rising within here = elim (eqb_tells e.0 p) [
  | inl same ↦ rw same.0 refl
  | inr other ↦ absurd (other.1 here)
]
state_at (e ∷ row) (suc i) p d rising within here = elim (eqb_tells e.0 p) [
  | inl same ↦ absurd (omega (arith, rising 0 (suc i) d (omega arith) within, here, same.1))
  | inr other ↦ rw other.0 (state_at row i p d (λ j k z lower inside. rising (suc j) (suc k) z (omega arith) (omega (arith, inside))) (omega (arith, within)) here)
]

-- a partition without an entry is Empty
pub state_missing : (row : List (ℕ × CopyState)) (p : ℕ) → All (λ e. e.0 ≢ p) row → state_of row p ≡ Empty
state_missing [] p h = refl
state_missing (e ∷ row) p h = elim (eqb_tells e.0 p) [
  | inl same ↦ absurd (h 0 e (omega arith) same.1)
  | inr other ↦ rw other.0 (state_missing row p (λ k d inside. h (suc k) d (omega (arith, inside))))
]

partitions_rise : (row : List (ℕ × CopyState)) (j k : ℕ) (d : ℕ × CopyState) → IsStateRow row → j ≤ k → k < length row → (get_or row j d).0 ≤ (get_or row k d).0
partitions_rise row j k d h upto inside = elim (cases_lt j k) [
  | inl lower ↦ omega (arith, h.rising j k d lower inside)
  | inr above ↦ omega (arith, ap (λ n. (get_or row n d).0) (let same : j ≡ k = omega arith in same))
]

answers_rise : (x y p : ℕ) → x ≤ y → ordering_index (nat_cmp x p) ≤ ordering_index (nat_cmp y p)
answers_rise x y p upto = grind (arith, nat_tests)

-- what a binary search of a row answers
pub searched : (row : List (ℕ × CopyState)) (p : ℕ) (r : Result ℕ ℕ) → IsStateRow row → IsSearchInRange r (length row) → IsBinarySearchResult (λ e. nat_cmp e.0 p) row r → record { found : IfSome (result_ok r) (IsPlaceOf p row); missing : IfNone (result_ok r) (All (λ e. e.0 ≢ p) row) }
searched row p (Ok i) h within equal = record { found = record { in_row = within; entry = λ d. ranked (get_or row i d).0 p Equal (sym (equal d)) }; missing = tt }
searched row p (Err i) h within split = record {
  found = tt;
  missing =
      let point = split (λ j k d upto inside. answers_rise (get_or row j d).0 (get_or row k d).0 p (partitions_rise row j k d h upto inside)) in
      λ k d inside same.
      elim (cases_lt k i) [
        | inl before ↦ omega (arith, ranked (get_or row k d).0 p Less (sym (point.0 k d (omega arith) before)))
        | inr after ↦ omega (arith, ranked (get_or row k d).0 p Greater (sym (point.1 k d after inside)))
      ];
}
