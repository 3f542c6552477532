-- The last of rising partitions is the highest one.
use Rattle.std.proofs.Common.{◌≡◌, ℕ, ◌<◌, ◌≤◌, List, [], ◌∷◌, ◌++◌, get_or, Option, Some, None, All, refl, arith}
use Rattle.std.proofs.lemmas.List.Elements.{All-append, All-cons, All-nil}
use Rattle.cluster_types.specs.declared.copy_state.CopyState.{CopyState}
use Rattle.wire_messages.specs.Rows.{entry_at}

abbrev pub AtLeast : Option ℕ → ℕ → Type 0
AtLeast None x = ⊥
AtLeast (Some b) x = x ≤ b

-- the last partition, if there is one, is at least each partition
pub record IsHighest (last : Option ℕ) (row : List (ℕ × CopyState)) : Type 0 where
  pub each : All (λ e. AtLeast last e.0) row

pub none_highest : IsHighest None []
none_highest = record { each = All-nil (λ (e : ℕ × CopyState). AtLeast None e.0) }

higher : (last : Option ℕ) (p x : ℕ) → ((b : ℕ) → last ≡ Some b → b < p) → AtLeast last x → x < p
higher None p x above m = absurd m
higher (Some b) p x above m = omega (arith, above b refl, m)

pub highest_above : (last : Option ℕ) (row : List (ℕ × CopyState)) (p : ℕ) → IsHighest last row → ((b : ℕ) → last ≡ Some b → b < p) → All (λ e. e.0 < p) row
highest_above last row p h above = λ k d lt. higher last p (get_or row k d).0 above (h.each k d lt)

pub highest_more : (last : Option ℕ) (row : List (ℕ × CopyState)) (p : ℕ) (s : CopyState) → IsHighest last row → ((b : ℕ) → last ≡ Some b → b < p) → IsHighest (Some p) (row ++ (p, s) ∷ [])
highest_more last row p s h above = record {
  each = All-append (λ (e : ℕ × CopyState). e.0 ≤ p) row ((p, s) ∷ [])
      (λ k d lt. let below = higher last p (get_or row k d).0 above (h.each k d lt) in omega (arith, below))
      (All-cons (λ (e : ℕ × CopyState). e.0 ≤ p) (p, s) [] (omega arith) (All-nil (λ (e : ℕ × CopyState). e.0 ≤ p)));
}

-- how many entries follow makes no difference
pub entry_any : (last : Option ℕ) (after : ℕ) (bytes : List ℕ) → entry_at last after bytes ≡ entry_at last 0 bytes
unfolding entry_at
entry_any last after bytes = refl
