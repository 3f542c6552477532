-- Whom a node hears, once a heartbeat came, and once a tick went by.
use Rattle.std.proofs.Common.{ℕ, ◌+◌, nat_lt, Bool, true, false, cond, [], ◌∷◌, map, reverse, All}
use Rattle.std.specs.FinMap.Entries.{by_order}
use Rattle.std.specs.Ordering.{nat_cmp}
use Rattle.std.specs.declared.cmp.Ordering.TheVariants.{Less, Equal, Greater}
use Rattle.std.proofs.lemmas.List.Elements.{All-cons, All-head, All-nil, All-tail}
use Rattle.std.proofs.lemmas.List.Sorted.{All-permutation, IsPermutation-reverse, IsPermutation-sym}
use Rattle.node_rules.specs.Hearing.{Heard, aged, heard_ids, older, timeout}
use Rattle.node_rules.specs.Tables.{Table, table_with}

put_ids : (P : ℕ → Type 0) (n : ℕ) (x : Heard) (es : Table Heard) → P n → All P (map (λ e. e.0) es) → All P (map (λ e. e.0) (table_with es n x))
put_ids P n x [] p h = All-cons P n [] p (All-nil P)
put_ids P n x (e ∷ es) p h =
    elim (nat_cmp n e.0) as (λ o. All P (map (λ (y : ℕ × Heard). y.0) (by_order o ((n, x) ∷ e ∷ es) ((e.0, x) ∷ es) (e ∷ table_with es n x)))) [
      | Less ↦ All-cons P n (e.0 ∷ map (λ (y : ℕ × Heard). y.0) es) p h
      | Equal ↦ h
      | Greater ↦
          All-cons P e.0 (map (λ (y : ℕ × Heard). y.0) (table_with es n x)) (All-head P e.0 (map (λ (y : ℕ × Heard). y.0) es) h)
          (put_ids P n x es p (All-tail P e.0 (map (λ (y : ℕ × Heard). y.0) es) h))
    ]

-- what holds of its sender and of all that were heard holds of all that are
pub heard_put : (P : ℕ → Type 0) (n : ℕ) (x : Heard) (es : Table Heard) → P n → All P (heard_ids es) → All P (heard_ids (table_with es n x))
heard_put P n x es p h =
    let before = map (λ (y : ℕ × Heard). y.0) es in
    let after = map (λ (y : ℕ × Heard). y.0) (table_with es n x) in
    All-permutation P after (reverse after) (IsPermutation-reverse after)
    (put_ids P n x es p (All-permutation P (reverse before) before (IsPermutation-sym before (reverse before) (IsPermutation-reverse before)) h))

-- ---- a tick

older_ids : (P : ℕ → Type 0) (es : Table Heard) → All P (map (λ e. e.0) es) → All P (map (λ e. e.0) (aged es))
older_ids P [] h = h
older_ids P (e ∷ es) h = go (nat_lt (e.1.age + 1) timeout) (older_ids P es (All-tail P e.0 (map (λ (x : ℕ × Heard). x.0) es) h))
  where
    go : (b : Bool) → All P (map (λ e. e.0) (aged es)) → All P (map (λ (x : ℕ × Heard). x.0) (cond b (older e ∷ aged es) (aged es)))
    go true later = All-cons P e.0 (map (λ (x : ℕ × Heard). x.0) (aged es)) (All-head P e.0 (map (λ (x : ℕ × Heard). x.0) es) h) later
    go false later = later

-- what holds of all that are heard holds of those that still are
pub heard_still : (P : ℕ → Type 0) (es : Table Heard) → All P (heard_ids es) → All P (heard_ids (aged es))
heard_still P es h =
    let before = map (λ (x : ℕ × Heard). x.0) es in
    let after = map (λ (x : ℕ × Heard). x.0) (aged es) in
    All-permutation P after (reverse after) (IsPermutation-reverse after)
    (older_ids P es (All-permutation P (reverse before) before (IsPermutation-sym before (reverse before) (IsPermutation-reverse before)) h))
