-- Sets of numbers as rising lists and as lists in any order, each number once.
use Rattle.std.proofs.Common.{◌≡◌, ℕ, zero, suc, ◌+◌, ◌≤◌, ◌==◌, Bool, true, false, cond, ◌&&◌, ◌||◌, List, [], ◌∷◌, length, refl, sym, ap, subst, ◌∙◌, arith, ◌⊎◌, inl, inr, ⊎_elim}
use Rattle.std.specs.Prelude.{nat_eq, nat_lt}
use Rattle.std.specs.List.{list_all, range_with_len}
use Rattle.std.specs.Cmp.Lexicographic.{pointwise}
use Rattle.std.proofs.lemmas.Bool.Decides.{nat_tests}
use Rattle.cluster_types.specs.Distinct.{contains}
use Rattle.partition_lists.specs.Counts.{with_number}
use Rattle.cluster_laws.proofs.At.{number_same, number_here, number_cases, and_left, and_right, and_both, or_cases, differ}

-- each is above the one before it, and the first above this number
abbrev pub Chain : ℕ → List ℕ → Type 0
Chain a [] = Unit {0}
Chain a (m ∷ ms) = (a + 1 ≤ m) × Chain m ms

abbrev pub Rising : List ℕ → Type 0
Rising [] = Unit {0}
Rising (m ∷ ms) = Chain m ms

below : (n m : ℕ) → nat_lt n m ≡ true → n + 1 ≤ m
below n m e = grind (arith, nat_tests)

above : (n m : ℕ) → (n == m) ≡ false → nat_lt n m ≡ false → m + 1 ≤ n
above n m e f = grind (arith, nat_tests)

chain_more : (a : ℕ) (ms : List ℕ) (n : ℕ) → Chain a ms → a + 1 ≤ n → Chain a (with_number ms n)
chain_more a [] n h le = (le, tt)
chain_more a (m ∷ ms) n h le = go (n == m) (nat_lt n m) refl refl (chain_more m ms n h.1)
  where
    go : (b c : Bool) → (n == m) ≡ b → nat_lt n m ≡ c → (m + 1 ≤ n → Chain m (with_number ms n)) → Chain a (cond b (m ∷ ms) (cond c (n ∷ m ∷ ms) (m ∷ with_number ms n)))
    go true c e f rest = h
    go false true e f rest = (le, (below n m f, h.1))
    go false false e f rest = (h.0, rest (above n m e f))

pub rising_more : (ms : List ℕ) (n : ℕ) → Rising ms → Rising (with_number ms n)
rising_more [] n h = tt
rising_more (m ∷ ms) n h = go (n == m) (nat_lt n m) refl refl
  where
    go : (b c : Bool) → (n == m) ≡ b → nat_lt n m ≡ c → Rising (cond b (m ∷ ms) (cond c (n ∷ m ∷ ms) (m ∷ with_number ms n)))
    go true c e f = h
    go false true e f = (below n m f, h)
    go false false e f = chain_more m ms n h (above n m e f)

chain_above : (a : ℕ) (ms : List ℕ) (x : ℕ) → Chain a ms → contains ms x ≡ true → a + 1 ≤ x
chain_above a [] x h e = differ e refl
chain_above a (m ∷ ms) x h e = ⊎_elim (λ z. omega (arith, h.0, number_same m x z)) (λ z. omega (arith, h.0, chain_above m ms x h.1 z)) (or_cases (m == x) (contains ms x) e)

rising_of : (a : ℕ) (ms : List ℕ) → Chain a ms → Rising ms
rising_of a [] h = tt
rising_of a (m ∷ ms) h = h.1

-- ---- one number more

swapped : (a b c : Bool) → (a || (b || c)) ≡ (b || (a || c))
swapped true true c = refl
swapped true false c = refl
swapped false true c = refl
swapped false false c = refl

doubled : (a c : Bool) → (a || c) ≡ (a || (a || c))
doubled true c = refl
doubled false c = refl

pub contains_more : (ms : List ℕ) (n z : ℕ) → contains (with_number ms n) z ≡ ((n == z) || contains ms z)
contains_more [] n z = refl
contains_more (m ∷ ms) n z = go (n == m) (nat_lt n m) refl (contains_more ms n z)
  where
    go : (b c : Bool) → (n == m) ≡ b → contains (with_number ms n) z ≡ ((n == z) || contains ms z) → contains (cond b (m ∷ ms) (cond c (n ∷ m ∷ ms) (m ∷ with_number ms n))) z ≡ ((n == z) || ((m == z) || contains ms z))
    go true c e rest = doubled (m == z) (contains ms z) ∙ ap (λ (y : ℕ). (y == z) || ((m == z) || contains ms z)) (sym (number_same n m e))
    go false true e rest = refl
    go false false e rest = ap (λ (b : Bool). (m == z) || b) rest ∙ swapped (m == z) (n == z) (contains ms z)

-- a number that is there changes nothing
pub there_already : (ms : List ℕ) (n : ℕ) → Rising ms → contains ms n ≡ true → with_number ms n ≡ ms
there_already [] n h e = differ e refl
there_already (m ∷ ms) n h e = go (n == m) (nat_lt n m) refl refl (there_already ms n (rising_of m ms h))
  where
    later : (n == m) ≡ false → contains ms n ≡ true
    later f = ⊎_elim (λ z. differ (subst (λ (y : ℕ). (y == m) ≡ true) (number_same m n z) (number_here m)) f) (λ z. z) (or_cases (m == n) (contains ms n) e)

    go : (b c : Bool) → (n == m) ≡ b → nat_lt n m ≡ c → (contains ms n ≡ true → with_number ms n ≡ ms) → cond b (m ∷ ms) (cond c (n ∷ m ∷ ms) (m ∷ with_number ms n)) ≡ m ∷ ms
    go true c i f rest = refl
    go false true i f rest = absurd (omega (arith, below n m f, chain_above m ms n h (later i)))
    go false false i f rest = ap (λ (ys : List ℕ). m ∷ ys) (rest (later i))

-- a number that isn't there makes it longer by one
pub longer : (ms : List ℕ) (n : ℕ) → contains ms n ≡ false → length (with_number ms n) ≡ suc (length ms)
longer [] n e = refl
longer (m ∷ ms) n e = go (n == m) (nat_lt n m) refl (longer ms n)
  where
    apart : (m == n) ≡ true → ⊥
    apart z = differ (Rattle.std.proofs.lemmas.Bool.or_left (m == n) (contains ms n) z) e

    go : (b c : Bool) → (n == m) ≡ b → (contains ms n ≡ false → length (with_number ms n) ≡ suc (length ms)) → length (cond b (m ∷ ms) (cond c (n ∷ m ∷ ms) (m ∷ with_number ms n))) ≡ suc (suc (length ms))
    go true c i rest = absurd (apart (subst (λ (y : ℕ). (m == y) ≡ true) (sym (number_same n m i)) (number_here m)))
    go false true i rest = refl
    go false false i rest = ap suc (rest (Rattle.cluster_types.proofs.BoolFacts.neither_right (m == n) (contains ms n) e))

-- ---- numbers without a gap

later_in : (m : ℕ) (ms : List ℕ) (x : ℕ) → contains (m ∷ ms) x ≡ true → (m ≡ x → ⊥) → contains ms x ≡ true
later_in m ms x e apart = ⊎_elim (λ z. absurd (apart (number_same m x z))) (λ z. z) (or_cases (m == x) (contains ms x) e)

-- the numbers from one on, so many, are among these
abbrev pub Has_from : ℕ → ℕ → List ℕ → Type 0
Has_from a n ms = (x : ℕ) → a ≤ x → x + 1 ≤ a + n → contains ms x ≡ true

order : (m a : ℕ) → (m ≡ a) ⊎ ((m + 1 ≤ a) ⊎ (a + 1 ≤ m))
order m a = grind arith

-- so many numbers want as long a list
few : (ms : List ℕ) (a n : ℕ) → Rising ms → Has_from a n ms → n ≤ length ms
few [] a zero h all = omega arith
few [] a (suc n) h all = differ (all a (omega arith) (omega arith)) refl
few (m ∷ ms) a zero h all = omega arith
few (m ∷ ms) a (suc n) h all = go (order m a) (few ms (a + 1) n (rising_of m ms h)) (few ms a (suc n) (rising_of m ms h))
  where
    go : (m ≡ a) ⊎ ((m + 1 ≤ a) ⊎ (a + 1 ≤ m)) → (Has_from (a + 1) n ms → n ≤ length ms) → (Has_from a (suc n) ms → suc n ≤ length ms) → suc n ≤ suc (length ms)
    go (inl i) one rest = omega (arith, one (λ x lo hi. later_in m ms x (all x (omega (arith, lo)) (omega (arith, hi))) (λ z. omega (arith, z, i, lo))))
    go (inr (inl i)) one rest = omega (arith, rest (λ x lo hi. later_in m ms x (all x lo hi) (λ z. omega (arith, z, i, lo))))
    go (inr (inr i)) one rest = absurd (omega (arith, i, chain_above m ms a h (later_in m ms a (all a (omega arith) (omega arith)) (λ z. omega (arith, z, i)))))

pub in_succession : (ms : List ℕ) (a : ℕ) → Rising ms → Has_from a (length ms) ms → pointwise nat_eq ms (range_with_len a (length ms)) ≡ true
in_succession [] a h all = refl
in_succession (m ∷ ms) a h all = go (order m a) (in_succession ms (a + 1) (rising_of m ms h))
  where
    go : (m ≡ a) ⊎ ((m + 1 ≤ a) ⊎ (a + 1 ≤ m)) → (Has_from (a + 1) (length ms) ms → pointwise nat_eq ms (range_with_len (a + 1) (length ms)) ≡ true) → (nat_eq m a && pointwise nat_eq ms (range_with_len (a + 1) (length ms))) ≡ true
    go (inl i) rest = and_both (nat_eq m a) (pointwise nat_eq ms (range_with_len (a + 1) (length ms))) (subst (λ (z : ℕ). (m == z) ≡ true) i (number_here m))
        (rest (λ x lo hi. later_in m ms x (all x (omega (arith, lo)) (omega (arith, hi))) (λ z. omega (arith, z, i, lo))))
    go (inr (inl i)) rest = absurd (omega (arith, few ms a (suc (length ms)) (rising_of m ms h) (λ x lo hi. later_in m ms x (all x lo hi) (λ z. omega (arith, z, i, lo)))))
    go (inr (inr i)) rest = absurd (omega (arith, i, chain_above m ms a h (later_in m ms a (all a (omega arith) (omega arith)) (λ z. omega (arith, z, i)))))

pub all_in_range : (test : ℕ → Bool) (a n : ℕ) → list_all test (range_with_len a n) ≡ true → (x : ℕ) → a ≤ x → x + 1 ≤ a + n → test x ≡ true
all_in_range test a zero e x lo hi = absurd (omega (arith, lo, hi))
all_in_range test a (suc n) e x lo hi = go (number_cases a x) (all_in_range test (a + 1) n (and_right (test a) (list_all test (range_with_len (a + 1) n)) e) x)
  where
    go : (a ≡ x) ⊎ (a ≡ x → ⊥) → (a + 1 ≤ x → x + 1 ≤ a + 1 + n → test x ≡ true) → test x ≡ true
    go (inl i) rest = subst (λ (z : ℕ). test z ≡ true) i (and_left (test a) (list_all test (range_with_len (a + 1) n)) e)
    go (inr i) rest = rest (omega (arith, i, lo)) (omega (arith, hi))

-- ---- the two forms of a set

pub record SameNumbers (xs ys : List ℕ) : Type 0 where
  pub same : (x : ℕ) → contains xs x ≡ contains ys x
  pub size : length xs ≡ length ys
  pub rising : Rising ys

pub no_numbers : SameNumbers [] []
no_numbers = record { same = λ x. refl; size = refl; rising = tt }

pub one_number : (xs ys : List ℕ) (n : ℕ) → SameNumbers xs ys → SameNumbers (cond (contains xs n) xs (n ∷ xs)) (with_number ys n)
one_number xs ys n h = go (contains xs n) refl
  where
    go : (b : Bool) → contains xs n ≡ b → SameNumbers (cond b xs (n ∷ xs)) (with_number ys n)
    go true e = subst (SameNumbers xs) (sym (there_already ys n h.rising (sym (h.same n) ∙ e))) h
    go false e = record {
      same = λ x. ap (λ (b : Bool). (n == x) || b) (h.same x) ∙ sym (contains_more ys n x);
      size = ap suc h.size ∙ sym (longer ys n (sym (h.same n) ∙ e));
      rising = rising_more ys n h.rising;
    }
