-- A list of stamps against the map that it stands for.
use Rattle.std.proofs.Common.{◌≡◌, ℕ, zero, suc, ◌+◌, ◌<◌, ◌≤◌, cond, ◌==◌, List, [], ◌∷◌, length, get_or, set, Option, Some, None, refl, sym, ap, ◌∙◌, inl, inr, arith}
use Rattle.std.specs.Ordering.{nat_cmp, eq_by_cmp}
use Rattle.std.specs.FinMap.{nat_cmp-IsAntisymmetric, find, get, insert, remove, empty, from_entries, get-insert, get-remove, get-from_entries, same_map}
use Rattle.std.specs.Cmp.{nat_cmp_total}
use Rattle.std.proofs.lemmas.Bool.{cases_lt}
use Rattle.std.proofs.lemmas.Bool.Decides.{eqb_tells, nat_tests}
use Rattle.std.proofs.lemmas.List.{length-set, get_or-set_same, get_or-set_other}
use Rattle.cluster_types.specs.declared.cluster_key.ClusterKey.{ClusterKey}
use Rattle.record_store.specs.declared.stamp.Stamp.{Stamp}
use Rattle.record_store.specs.StampList.{shown_stamp, with_stamp_entry, entries_from, stamps_of}

abbrev Shown : Type 0
Shown = Option (ClusterKey × ℕ)

tied : (q p : ℕ) → eq_by_cmp nat_cmp q p ≡ (q == p)
tied q p = grind (arith, nat_tests)

-- the entry of another partition isn't found
find_apart : (q p : ℕ) (o : Shown) (es : List (ℕ × (ClusterKey × ℕ))) → (q ≡ p → ⊥) → find nat_cmp q (with_stamp_entry p o es) ≡ find nat_cmp q es
find_apart q p None es apart = refl
find_apart q p (Some s) es apart = elim (eqb_tells q p) as (λ _. cond (eq_by_cmp nat_cmp q p) (Some s) (find nat_cmp q es) ≡ find nat_cmp q es) [
  | inl same ↦ absurd (apart same.1)
  | inr other ↦ ap (λ b. cond b (Some s) (find nat_cmp q es)) (tied q p ∙ other.0)
]

find_here : (q p : ℕ) (o : Shown) (es : List (ℕ × (ClusterKey × ℕ))) → q ≡ p → find nat_cmp q es ≡ None → find nat_cmp q (with_stamp_entry p o es) ≡ o
find_here q p None es same none = none
find_here q p (Some s) es same none = elim (eqb_tells q p) as (λ _. cond (eq_by_cmp nat_cmp q p) (Some s) (find nat_cmp q es) ≡ Some s) [
  | inl here ↦ ap (λ b. cond b (Some s) (find nat_cmp q es)) (tied q p ∙ here.0)
  | inr other ↦ absurd (other.1 same)
]

find_below : (ss : List (Option Stamp)) (n q : ℕ) → q < n → find nat_cmp q (entries_from n ss) ≡ None
find_below [] n q below = refl
find_below (s ∷ ss) n q below = find_apart q n (shown_stamp s) (entries_from (suc n) ss) (λ same. omega (arith, same)) ∙ find_below ss (suc n) q (omega arith)

find_at : (ss : List (Option Stamp)) (n i q : ℕ) (z : Option Stamp) → q ≡ n + i → i < length ss → find nat_cmp q (entries_from n ss) ≡ shown_stamp (get_or ss i z)
find_at [] n i q z is within = absurd (omega arith)
find_at (s ∷ ss) n zero q z is within = find_here q n (shown_stamp s) (entries_from (suc n) ss) (omega (arith, is)) (find_below ss (suc n) q (omega (arith, is)))
find_at (s ∷ ss) n (suc i) q z is within = find_apart q n (shown_stamp s) (entries_from (suc n) ss) (λ same. omega (arith, same, is)) ∙ find_at ss (suc n) i q z (omega (arith, is)) (omega (arith, within))

find_past : (ss : List (Option Stamp)) (n i q : ℕ) → q ≡ n + i → length ss ≤ i → find nat_cmp q (entries_from n ss) ≡ None
find_past [] n i q is past = refl
find_past (s ∷ ss) n zero q is past = absurd (omega (arith, past))
find_past (s ∷ ss) n (suc i) q is past = find_apart q n (shown_stamp s) (entries_from (suc n) ss) (λ same. omega (arith, same, is)) ∙ find_past ss (suc n) i q (omega (arith, is)) (omega (arith, past))

pub get_stamps : (ss : List (Option Stamp)) (p : ℕ) (z : Option Stamp) → p < length ss → get (stamps_of ss) p ≡ shown_stamp (get_or ss p z)
get_stamps ss p z within = get-from_entries nat_cmp_total (entries_from 0 ss) p ∙ find_at ss 0 p p z (omega arith) within

get_stamps_past : (ss : List (Option Stamp)) (p : ℕ) → length ss ≤ p → get (stamps_of ss) p ≡ None
get_stamps_past ss p past = get-from_entries nat_cmp_total (entries_from 0 ss) p ∙ find_past ss 0 p p (omega arith) past

get_set : (ss : List (Option Stamp)) (p q : ℕ) (o : Option Stamp) → p < length ss → get (stamps_of (set ss p o)) q ≡ cond (eq_by_cmp nat_cmp q p) (shown_stamp o) (get (stamps_of ss) q)
get_set ss p q o within = elim (eqb_tells q p) as (λ _. get (stamps_of (set ss p o)) q ≡ cond (eq_by_cmp nat_cmp q p) (shown_stamp o) (get (stamps_of ss) q)) [
  | inl same ↦ get_stamps (set ss p o) q o (omega (arith, within, same.1, length-set ss p o))
      ∙ ap (λ n. shown_stamp (get_or (set ss p o) n o)) same.1
      ∙ ap shown_stamp (get_or-set_same ss p o o within)
      ∙ sym (ap (λ b. cond b (shown_stamp o) (get (stamps_of ss) q)) (tied q p ∙ same.0))
  | inr other ↦ elim (cases_lt q (length ss)) as (λ _. get (stamps_of (set ss p o)) q ≡ get (stamps_of ss) q) [
    | inl lower ↦ get_stamps (set ss p o) q o (omega (arith, lower, length-set ss p o)) ∙ ap shown_stamp (get_or-set_other ss p q o o other.1) ∙ sym (get_stamps ss q o lower)
    | inr past ↦ get_stamps_past (set ss p o) q (omega (arith, past, length-set ss p o)) ∙ sym (get_stamps_past ss q past)
  ]
      ∙ sym (ap (λ b. cond b (shown_stamp o) (get (stamps_of ss) q)) (tied q p ∙ other.0))
]

pub stamps_set : (ss : List (Option Stamp)) (p : ℕ) (s : Stamp) → p < length ss → stamps_of (set ss p (Some s)) ≡ insert (stamps_of ss) p (s.key, s.writes)
stamps_set ss p s within = same_map nat_cmp_total nat_cmp-IsAntisymmetric _ _ (λ q. get_set ss p q (Some s) within ∙ sym (get-insert nat_cmp_total (stamps_of ss) p (s.key, s.writes) q))

pub stamps_clear : (ss : List (Option Stamp)) (p : ℕ) → p < length ss → stamps_of (set ss p None) ≡ remove (stamps_of ss) p
stamps_clear ss p within = same_map nat_cmp_total nat_cmp-IsAntisymmetric _ _ (λ q. get_set ss p q None within ∙ sym (get-remove nat_cmp_total (stamps_of ss) p q))

-- a list without stamps
pub stamps_new : (ss : List (Option Stamp)) → ((j : ℕ) (z : Option Stamp) → j < length ss → get_or ss j z ≡ None) → stamps_of ss ≡ empty
stamps_new ss h = ap (λ (es : List (ℕ × (ClusterKey × ℕ))). from_entries es) (none 0 ss h)
  where
    none : (n : ℕ) (bs : List (Option Stamp)) → ((j : ℕ) (z : Option Stamp) → j < length bs → get_or bs j z ≡ None) → entries_from n bs ≡ []
    none n [] g = refl
    none n (s ∷ bs) g = ap (λ o. with_stamp_entry n (shown_stamp o) (entries_from (suc n) bs)) (g 0 s (omega arith)) ∙ none (suc n) bs (λ j z lower. g (suc j) z (omega (arith, lower)))
