-- Tables in rising order that gain an entry at their end.
use Rattle.std.proofs.Common.{◌≡◌, ℕ, ◌<◌, ◌≤◌, ◌==◌, nat_lt, true, false, List, [], ◌∷◌, ◌++◌, Some, refl, ap, arith}
use Rattle.std.specs.Ordering.{nat_cmp}
use Rattle.std.specs.declared.cmp.Ordering.{Ordering}
use Rattle.std.specs.declared.cmp.Ordering.TheVariants.{Less, Equal, Greater}
use Rattle.std.specs.FinMap.{find, put}
use Rattle.std.specs.FinMap.Entries.{by_order}
use Rattle.std.proofs.lemmas.Bool.Decides.{nat_tests}

lt_true : (a b : ℕ) → a < b → nat_lt a b ≡ true
lt_true a b h = grind (arith, nat_tests)

lt_false : (a b : ℕ) → b ≤ a → nat_lt a b ≡ false
lt_false a b h = grind (arith, nat_tests)

is_other : (a b : ℕ) → b < a → (a == b) ≡ false
is_other a b h = grind (arith, nat_tests)

pub is_itself : (a : ℕ) → (a == a) ≡ true
is_itself a = grind (arith, nat_tests)

module _ {X : Type 0} where
  -- all keys are below that one
  abbrev pub Under : ℕ → List (ℕ × X) → Type 0
  Under k [] = Unit {0}
  Under k (e ∷ es) = (e.0 < k) × Under k es

  pub under_snoc : (k : ℕ) (t : List (ℕ × X)) (e : ℕ × X) → Under k t → e.0 < k → Under k (t ++ e ∷ [])
  under_snoc k [] e h i = (i, tt)
  under_snoc k (x ∷ t) e h i = (h.0, under_snoc k t e h.1 i)

  placed : (k : ℕ) (v : X) (x : ℕ × X) (t z : List (ℕ × X)) (o : Ordering) → put nat_cmp k v (t ++ z) ≡ put nat_cmp k v t ++ z
      → by_order o ((k, v) ∷ x ∷ t ++ z) ((x.0, v) ∷ t ++ z) (x ∷ put nat_cmp k v (t ++ z)) ≡ by_order o ((k, v) ∷ x ∷ t) ((x.0, v) ∷ t) (x ∷ put nat_cmp k v t) ++ z
  placed k v x t z Less h = refl
  placed k v x t z Equal h = refl
  placed k v x t z Greater h = ap (λ rest. x ∷ rest) h

  -- a key is put in before a greater last one
  pub put_before : (k : ℕ) (v : X) (t : List (ℕ × X)) (e : ℕ × X) → k < e.0 → put nat_cmp k v (t ++ e ∷ []) ≡ put nat_cmp k v t ++ e ∷ []
  put_before k v [] e h = rw (lt_true k e.0 h) refl
  put_before k v (x ∷ t) e h = placed k v x t (e ∷ []) (nat_cmp k x.0) (put_before k v t e h)

  -- a key is put in behind all lower ones
  pub put_behind : (k : ℕ) (v : X) (t u : List (ℕ × X)) → Under k t → put nat_cmp k v (t ++ u) ≡ t ++ put nat_cmp k v u
  put_behind k v [] u h = refl
  put_behind k v (x ∷ t) u h =
      let le : x.0 ≤ k = omega (arith, h.0) in
      rw (lt_false k x.0 le, is_other k x.0 h.0) (ap (λ rest. x ∷ rest) (put_behind k v t u h.1))

  -- a key that stands alone gets another value
  pub put_again : (k : ℕ) (v w : X) → put nat_cmp k v ((k, w) ∷ []) ≡ (k, v) ∷ []
  put_again k v w =
      let le : k ≤ k = omega arith in
      rw (lt_false k k le, is_itself k) refl

  -- what stands at a key doesn't change by a greater one behind it
  pub find_before : (k : ℕ) (t : List (ℕ × X)) (e : ℕ × X) → k < e.0 → find nat_cmp k (t ++ e ∷ []) ≡ find nat_cmp k t
  find_before k [] e h = rw (lt_true k e.0 h) refl
  find_before k (x ∷ t) e h = rw (find_before k t e h) refl

  -- a key doesn't stand among lower ones
  pub find_behind : (k : ℕ) (t u : List (ℕ × X)) → Under k t → find nat_cmp k (t ++ u) ≡ find nat_cmp k u
  find_behind k [] u h = refl
  find_behind k (x ∷ t) u h =
      let le : x.0 ≤ k = omega (arith, h.0) in
      rw (lt_false k x.0 le, is_other k x.0 h.0) (find_behind k t u h.1)

  pub find_itself : (k : ℕ) (v : X) → find nat_cmp k ((k, v) ∷ []) ≡ Some v
  find_itself k v =
      let le : k ≤ k = omega arith in
      rw (lt_false k k le, is_itself k) refl
