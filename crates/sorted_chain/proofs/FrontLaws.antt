-- The fronts of keys go as the keys.
use Rattle.std.proofs.Common.{◌≡◌, ℕ, zero, suc, ◌+◌, ◌*◌, ◌^◌, ◌<◌, ◌≤◌, List, [], ◌∷◌, length, ⊎_elim, refl, sym, ap, ◌∙◌, arith}
use Rattle.std.specs.List.{All}
use Rattle.std.specs.Cmp.{nat_cmp_is}
use Rattle.std.specs.Ordering.{nat_cmp, ordering_then}
use Rattle.std.specs.declared.cmp.Ordering.{Ordering}
use Rattle.std.specs.declared.cmp.Ordering.TheVariants.{Less, Equal, Greater}
use Rattle.std.proofs.lemmas.Nat.{mul-le}
use Rattle.std.proofs.lemmas.Bool.{cases_order}
use Rattle.std.proofs.lemmas.List.Elements.{All-head, All-tail}
use Rattle.sorted_chain.specs.Chain.{key_cmp}
use Rattle.sorted_chain.specs.Marks.{key_front, IsTwentyBytes}
use Rattle.sorted_chain.proofs.PlaceLaws.{flipped}

-- the first n bytes as a number
abbrev worth : ℕ → List ℕ → ℕ
worth zero k = 0
worth (suc n) [] = 0
worth (suc n) (b ∷ k) = b * 256 ^ n + worth n k

power : (n : ℕ) → 0 < 256 ^ n
power zero = omega arith
power (suc n) = omega (arith, power n)

next : (x P : ℕ) → suc x * P ≡ x * P + P
next x P = grind arith

fits : (n : ℕ) (k : List ℕ) → All (λ b. b < 256) k → worth n k < 256 ^ n
fits zero k h = omega arith
fits (suc n) [] h = power (suc n)
fits (suc n) (b ∷ k) h =
    let first : b < 256 = All-head (λ x. x < 256) b k h in
    let rest : worth n k < 256 ^ n = fits n k (All-tail (λ x. x < 256) b k h) in
    let most : suc b * 256 ^ n ≤ 256 * 256 ^ n = mul-le (suc b) (256 ^ n) 256 (256 ^ n) (omega (arith, first)) (omega arith) in
    omega (arith, rest, most, next b (256 ^ n))

-- two numbers of one byte and the rest, of which the first is less
module _ (x y s t P : ℕ) (o : Ordering) (l : s < P) (m : t < P) (h : x * P + s < y * P + t) (r : s < t → o ≡ Less) where
  by_first : (w : Ordering) → w ≡ nat_cmp x y → ordering_then w o ≡ Less → ordering_then (nat_cmp x y) o ≡ Less
  by_first w e less = ap (λ v. ordering_then v o) (sym e) ∙ less

  first_decides : ordering_then (nat_cmp x y) o ≡ Less
  first_decides =
      ⊎_elim
      (λ e. by_first Equal (nat_cmp_is x y Equal e) (r (let same : x * P ≡ y * P = ap (λ z. z * P) e in omega (arith, same, h))))
      (⊎_elim
      (λ less. by_first Less (nat_cmp_is x y Less less) refl)
      (λ greater.
      let more : suc y * P ≤ x * P = mul-le (suc y) P x P (omega (arith, greater)) (omega arith) in
      absurd (omega (arith, more, next y P, h, m))))
      (cases_order x y)

ordered : (n : ℕ) (a b : List ℕ) → n ≤ length a → n ≤ length b → All (λ x. x < 256) a → All (λ x. x < 256) b → worth n a < worth n b → key_cmp a b ≡ Less
ordered zero a b v w f g h = absurd (omega (arith, h))
ordered (suc n) [] b v w f g h = absurd (omega (arith, v))
ordered (suc n) (x ∷ a) [] v w f g h = absurd (omega (arith, w))
ordered (suc n) (x ∷ a) (y ∷ b) v w f g h =
    let p = All-tail (λ z. z < 256) x a f in
    let q = All-tail (λ z. z < 256) y b g in
    first_decides x y (worth n a) (worth n b) (256 ^ n) (key_cmp a b) (fits n a p) (fits n b q) h (λ less. ordered n a b (omega (arith, v)) (omega (arith, w)) p q less)

front_worth : (k : List ℕ) → 8 ≤ length k → key_front k ≡ worth 8 k
front_worth [] h = absurd (omega arith)
front_worth (a ∷ []) h = absurd (omega arith)
front_worth (a ∷ b ∷ []) h = absurd (omega arith)
front_worth (a ∷ b ∷ c ∷ []) h = absurd (omega arith)
front_worth (a ∷ b ∷ c ∷ d ∷ []) h = absurd (omega arith)
front_worth (a ∷ b ∷ c ∷ d ∷ e ∷ []) h = absurd (omega arith)
front_worth (a ∷ b ∷ c ∷ d ∷ e ∷ f ∷ []) h = absurd (omega arith)
front_worth (a ∷ b ∷ c ∷ d ∷ e ∷ f ∷ g ∷ []) h = absurd (omega arith)
front_worth (a ∷ b ∷ c ∷ d ∷ e ∷ f ∷ g ∷ i ∷ k) h = omega arith

-- of two keys, the one with the lesser front is below the other
pub fronts_order : (a b : List ℕ) → IsTwentyBytes a → IsTwentyBytes b → key_front a < key_front b → key_cmp a b ≡ Less
fronts_order a b v w h =
    ordered 8 a b (omega (arith, v.long)) (omega (arith, w.long)) v.bytes w.bytes (omega (arith, front_worth a (omega (arith, v.long)), front_worth b (omega (arith, w.long)), h))

-- where the fronts of two keys differ, the keys go as they do
pub unequal_fronts : (a b : List ℕ) (x y : ℕ) (o : Ordering) → IsTwentyBytes a → IsTwentyBytes b → x ≡ key_front a → y ≡ key_front b → o ≡ nat_cmp x y → (o ≡ Equal → ⊥) → o ≡ key_cmp a b
unequal_fronts a b x y o v w e f h unequal =
    ⊎_elim
    (λ same. absurd (unequal (h ∙ sym (nat_cmp_is x y Equal same))))
    (⊎_elim
    (λ less. h ∙ sym (nat_cmp_is x y Less less) ∙ sym (fronts_order a b v w (omega (arith, e, f, less))))
    (λ greater. h ∙ sym (nat_cmp_is x y Greater greater) ∙ sym (flipped b a Less (fronts_order b a w v (omega (arith, e, f, greater))))))
    (cases_order x y)
