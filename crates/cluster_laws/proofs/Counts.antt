-- What a count tells of the numbers.
use Rattle.std.proofs.Common.{◌≡◌, ℕ, ◌+◌, ◌≤◌, ◌==◌, Bool, true, false, cond, List, [], ◌∷◌, length, refl, sym, ◌∙◌, subst, arith, ◌⊎◌, inl, inr, ⊎_elim}
use Rattle.std.specs.Prelude.{nat_eq}
use Rattle.std.specs.Cmp.Lexicographic.{pointwise}
use Rattle.std.specs.List.{range_with_len}
use Rattle.std.proofs.lemmas.Bool.{or_left, or_right}
use Rattle.cluster_types.specs.Distinct.{contains}
use Rattle.partition_lists.specs.Classes.{no_class}
use Rattle.partition_lists.specs.Counts.{have_no_gap, count_of}
use Rattle.cluster_laws.proofs.At.{number_same, number_here, number_cases, differ, and_left, and_right, or_cases}

-- numbers in succession
within_range : (ms : List ℕ) (a x : ℕ) → pointwise nat_eq ms (range_with_len a (length ms)) ≡ true → contains ms x ≡ true → (a ≤ x) × (x + 1 ≤ a + length ms)
within_range [] a x e c = differ c refl
within_range (m ∷ ms) a x e c = ⊎_elim
    (λ z. omega (arith, number_same m x z, number_same m a (and_left (nat_eq m a) (pointwise nat_eq ms (range_with_len (a + 1) (length ms))) e)))
    (λ z. omega (arith, within_range ms (a + 1) x (and_right (nat_eq m a) (pointwise nat_eq ms (range_with_len (a + 1) (length ms))) e) z)) (or_cases (m == x) (contains ms x) c)

in_range : (ms : List ℕ) (a x : ℕ) → pointwise nat_eq ms (range_with_len a (length ms)) ≡ true → a ≤ x → x + 1 ≤ a + length ms → contains ms x ≡ true
in_range [] a x e lo hi = absurd (omega arith)
in_range (m ∷ ms) a x e lo hi = go (number_cases a x) (in_range ms (a + 1) x (and_right (nat_eq m a) (pointwise nat_eq ms (range_with_len (a + 1) (length ms))) e))
  where
    first : m ≡ a
    first = number_same m a (and_left (nat_eq m a) (pointwise nat_eq ms (range_with_len (a + 1) (length ms))) e)

    go : (a ≡ x) ⊎ (a ≡ x → ⊥) → (a + 1 ≤ x → x + 1 ≤ a + 1 + length ms → contains ms x ≡ true) → contains (m ∷ ms) x ≡ true
    go (inl i) rest = or_left (m == x) (contains ms x) (subst (λ (z : ℕ). (z == x) ≡ true) (sym (first ∙ i)) (number_here x))
    go (inr i) rest = or_right (m == x) (contains ms x) (rest (omega arith) (omega arith))

-- what a class tells of the numbers: they are those from 1 on
pub record IsCounted (ms : List ℕ) (c : ℕ) : Type 0 where
  pub above : (x : ℕ) → contains ms x ≡ true → x ≤ c
  pub all : (x : ℕ) → 1 ≤ x → x ≤ c → contains ms x ≡ true

pub counted : (ms : List ℕ) (c : ℕ) → c ≡ count_of ms → (c == no_class) ≡ false → IsCounted ms c
counted ms c e some = go (have_no_gap ms) refl e
  where
    go : (b : Bool) → have_no_gap ms ≡ b → c ≡ cond b (length ms) no_class → IsCounted ms c
    go true i q = record { above = λ x z. omega (arith, within_range ms 1 x i z, q); all = λ x lo hi. in_range ms 1 x i lo (omega (arith, q)) }
    go false i q = differ (subst (λ (z : ℕ). (z == no_class) ≡ true) (sym q) (number_here no_class)) some
