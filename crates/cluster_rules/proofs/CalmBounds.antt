-- Where calm is reached in time, it is reached.
use Rattle.std.proofs.Common.{◌≡◌, ℕ, zero, suc, ◌+◌, ◌<◌, ◌≤◌, ◌⊎◌, inl, inr, ⊎_elim, Bool, true, false, refl, ap, ◌∙◌, arith}
use Rattle.std.proofs.lemmas.Bool.{cases_lt}
use Rattle.cluster_rules.specs.Calm.{is_calm_of}
use Rattle.cluster_rules.specs.CalmBound.{CalmIsReached, IsWithinCalm, IsBehindFull, ComesInTime, is_full_round, calm_limit}
use Rattle.cluster_rules.specs.Steps.{rounds}
use Rattle.cluster_rules.specs.World.{World}

-- the world is calm after fewer rounds than that
record ComesBefore (n : ℕ) (w : World) (k : ℕ) : Type 0 where
  number : ℕ
  before : number < k
  calm : is_calm_of n (rounds n number w).world ≡ true

-- or it is calm after none of them
abbrev Looked : ℕ → World → ℕ → Type 0
Looked n w k = ComesBefore n w k ⊎ ((i : ℕ) → i < k → is_calm_of n (rounds n i w).world ≡ false)

one_more : (n : ℕ) (w : World) (k : ℕ) → ((i : ℕ) → i < k → is_calm_of n (rounds n i w).world ≡ false) → is_calm_of n (rounds n k w).world ≡ false
    → (i : ℕ) → i < suc k → is_calm_of n (rounds n i w).world ≡ false
one_more n w k h e i lt = ⊎_elim (λ (less : i < k). h i less) (λ (more : k ≤ i). let same : i ≡ k = omega (arith, more, lt) in ap (λ (j : ℕ). is_calm_of n (rounds n j w).world) same ∙ e) (cases_lt i k)

look : (n : ℕ) (w : World) (k : ℕ) → Looked n w k
look n w zero = inr (λ i lt. absurd (omega (arith, lt)))
look n w (suc k) = go (look n w k) (is_calm_of n (rounds n k w).world) refl
  where
    go : Looked n w k → (b : Bool) → is_calm_of n (rounds n k w).world ≡ b → Looked n w (suc k)
    go (inl h) b e = inl (record { number = h.number; before = omega (arith, h.before); calm = h.calm })
    go (inr h) true e = inl (record { number = k; before = omega arith; calm = e })
    go (inr h) false e = inr (one_more n w k h e)

never_full : (n : ℕ) (w : World) (number from : ℕ) → ((i : ℕ) → is_full_round n w i ≡ false) → IsBehindFull n w number from → ⊥
never_full n w number from h b = no (is_full_round n w b.place) b.full (h b.place)
  where
    no : (x : Bool) → x ≡ true → x ≡ false → ⊥
    no true e i = cc
    no false e i = cc

pub comes_in_time : (n : ℕ) (w : World) → CalmIsReached n w → ((i : ℕ) → is_full_round n w i ≡ false) → ComesInTime n w
comes_in_time n w h placed = go (look n w (calm_limit w + 1))
  where
    first : (number : ℕ) → IsWithinCalm n w number → number ≤ calm_limit w
    first number c = ⊎_elim (λ (e : c.from ≡ 0). omega (arith, e, c.few)) (λ b. absurd (never_full n w number c.from placed b)) c.begins

    go : Looked n w (calm_limit w + 1) → ComesInTime n w
    go (inl x) = record { number = x.number; within = omega (arith, x.before); calm = x.calm }
    go (inr u) =
        let over : calm_limit w + 1 ≤ calm_limit w = first (calm_limit w + 1) (h.bounded (rounds n (calm_limit w + 1) w) (record { number = calm_limit w + 1; uneasy = u; played = refl })) in
        absurd (omega (arith, over))
