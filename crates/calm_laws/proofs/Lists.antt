-- Lists of numbers and of what was posted.
use Rattle.std.proofs.Common.{◌≡◌, ℕ, zero, suc, ◌+◌, ◌-◌, ◌<◌, ◌≤◌, ◌==◌, ◌||◌, not, Bool, true, false, cond, List, [], ◌∷◌, ◌++◌, length, Some, refl, ap, ◌∙◌, arith}
use Rattle.std.specs.Prelude.{slice_get, filter, nat_lt, None, if◌then◌else◌}
use Rattle.std.proofs.lemmas.Bool.Decides.{nat_tests}
use Rattle.cluster_types.specs.Distinct.{without}
use Rattle.journal_readings.specs.Lines.{has_node}
use Rattle.journal_readings.specs.Messages.{Posting}
use Rattle.cluster_rules.specs.Network.{Network, posting_at}
use Rattle.cluster_laws.proofs.GroundLaws.{apart}
use Rattle.calm_laws.specs.Letters.{new_numbers}

-- ---- places

pub get_front : {A : Type 0} (xs ys : List A) (k : ℕ) → k < length xs → slice_get (xs ++ ys) k ≡ slice_get xs k
get_front [] ys k lt = absurd (omega (arith, lt))
get_front (x ∷ xs) ys zero lt = refl
get_front (x ∷ xs) ys (suc k) lt = get_front xs ys k (omega (arith, lt))

pub get_behind : {A : Type 0} (xs : List A) (y : A) (ys : List A) → slice_get (xs ++ y ∷ ys) (length xs) ≡ Some y
get_behind [] y ys = refl
get_behind (x ∷ xs) y ys = get_behind xs y ys

pub get_some : {A : Type 0} (xs : List A) (k : ℕ) → k < length xs → (x : A) × (slice_get xs k ≡ Some x)
get_some [] k lt = absurd (omega (arith, lt))
get_some (x ∷ xs) zero lt = (x, refl)
get_some (x ∷ xs) (suc k) lt = get_some xs k (omega (arith, lt))

-- ---- what was posted under a number

above_none : (k : ℕ) → nat_lt 0 (k + 1) ≡ true
above_none k = grind (arith, nat_tests)

above : (k : ℕ) → 0 < k → nat_lt 0 k ≡ true
above k lt = grind (arith, nat_tests)

pub posting_stays : (u w : Network) (ps : List Posting) (i : ℕ) → u.sent ≡ w.sent ++ ps → 0 < i → i ≤ length w.sent → posting_at u i ≡ posting_at w i
posting_stays u w ps i e lt le = go (nat_lt 0 i)
  where
    go : (b : Bool) → (if b then slice_get u.sent (i - 1) else None) ≡ (if b then slice_get w.sent (i - 1) else None)
    go true = ap (λ (xs : List Posting). slice_get xs (i - 1)) e ∙ get_front w.sent ps (i - 1) (omega (arith, lt, le))
    go false = refl

pub posting_new : (u : Network) (before : List Posting) (p : Posting) (behind : List Posting) → u.sent ≡ before ++ p ∷ behind → posting_at u (length before + 1) ≡ Some p
posting_new u before p behind e =
    let one : length before + 1 - 1 ≡ length before = omega arith in
    ap (λ (b : Bool). (if b then slice_get u.sent ((length before + 1) - 1) else None)) (above_none (length before))
    ∙ ap (λ (k : ℕ). slice_get u.sent k) one
    ∙ ap (λ (xs : List Posting). slice_get xs (length before)) e
    ∙ get_behind before p behind

pub posting_there : (w : Network) (i : ℕ) → 0 < i → i ≤ length w.sent → (p : Posting) × (posting_at w i ≡ Some p)
posting_there w i lt le =
    let g : (p : Posting) × (slice_get w.sent (i - 1) ≡ Some p) = get_some w.sent (i - 1) (omega (arith, lt, le)) in
    (g.0, ap (λ (b : Bool). (if b then slice_get w.sent (i - 1) else None)) (above i lt) ∙ g.1)

-- ---- lists without a number

filter_append : {A : Type 0} (test : A → Bool) (xs ys : List A) → filter test (xs ++ ys) ≡ filter test xs ++ filter test ys
filter_append test [] ys = refl
filter_append {A} test (x ∷ xs) ys = go (test x) (filter_append test xs ys)
  where
    go : (b : Bool) → filter test (xs ++ ys) ≡ filter test xs ++ filter test ys → cond b (x ∷ filter test (xs ++ ys)) (filter test (xs ++ ys)) ≡ cond b (x ∷ filter test xs) (filter test xs) ++ filter test ys
    go true e = ap (λ (zs : List A). x ∷ zs) e
    go false e = e

pub above_isnt : (s i : ℕ) → i ≤ s → s + 1 ≡ i → ⊥
above_isnt s i le e = omega (arith, le, e)

without_numbers : (s : ℕ) (ps : List Posting) (i : ℕ) → i ≤ s → without (new_numbers s ps) i ≡ new_numbers s ps
without_numbers s [] i le = refl
without_numbers s (p ∷ ps) i le =
    ap (λ (b : Bool). cond (not b) ((s + 1) ∷ without (new_numbers (s + 1) ps) i) (without (new_numbers (s + 1) ps) i)) (apart (s + 1) i (above_isnt s i le))
    ∙ ap (λ (xs : List ℕ). (s + 1) ∷ xs) (without_numbers (s + 1) ps i (omega (arith, le)))

pub without_new : (xs : List ℕ) (s : ℕ) (ps : List Posting) (i : ℕ) → i ≤ s → without (xs ++ new_numbers s ps) i ≡ without xs i ++ new_numbers s ps
without_new xs s ps i le = filter_append (λ (n : ℕ). not (n == i)) xs (new_numbers s ps) ∙ ap (λ (ys : List ℕ). without xs i ++ ys) (without_numbers s ps i le)

pub has_front : (xs ys : List ℕ) (i : ℕ) → has_node xs i ≡ true → has_node (xs ++ ys) i ≡ true
has_front [] ys i e = absurd (grind (arith, e))
has_front (x ∷ xs) ys i e = go (x == i) e (has_front xs ys i)
  where
    go : (b : Bool) → (b || has_node xs i) ≡ true → (has_node xs i ≡ true → has_node (xs ++ ys) i ≡ true) → (b || has_node (xs ++ ys) i) ≡ true
    go true f rest = refl
    go false f rest = rest f

-- ---- numbers

pub numbers_append : (s : ℕ) (ps qs : List Posting) → new_numbers s (ps ++ qs) ≡ new_numbers s ps ++ new_numbers (s + length ps) qs
numbers_append s [] qs = ap (λ (k : ℕ). new_numbers k qs) (none s)
  where
    none : (s : ℕ) → s ≡ s + 0
    none s = omega arith
numbers_append s (p ∷ ps) qs =
    ap (λ (xs : List ℕ). (s + 1) ∷ xs) (numbers_append (s + 1) ps qs ∙ ap (λ (k : ℕ). new_numbers (s + 1) ps ++ new_numbers k qs) (one s (length ps)))
  where
    one : (s k : ℕ) → s + 1 + k ≡ s + suc k
    one s k = omega arith
