-- The bits of a row that is made of one or two others.
use Rattle.std.proofs.Common.{◌≡◌, ◌⊎◌, ◌&&◌, ◌||◌, inl, inr, ℕ, zero, suc, ◌+◌, ◌-◌, ◌/◌, ◌%◌, ◌^◌, ◌<◌, ◌≤◌, Bool, true, false, not, List, get_or, refl, sym, ap, ap₂, ◌∙◌, arith}
use Rattle.std.specs.Prelude.{◌==◌, bit_xor}
use Rattle.std.specs.Bool.{beq}
use Rattle.std.specs.Int.{w8, bit_at, bit_not}
use Rattle.std.proofs.lemmas.Bool.{cases_lt}
use Rattle.std.proofs.lemmas.Nat.Bits.{bit_at-lt, bit_at_not, bit_at_xor}
use Rattle.cluster_types.specs.RowBytes.{AreRowBytes, bits_of}
use Rattle.cluster_types.specs.Rows.{bit}
use Rattle.cluster_types.proofs.RowLaws.{bit_past, bit_within}

xor_ones : (a b : ℕ) → a < 2 → b < 2 → ((a + b) % 2 == 1) ≡ not (beq (a == 1) (b == 1))
xor_ones zero zero small other = refl
xor_ones zero (suc zero) small other = refl
xor_ones zero (suc (suc b)) small other = absurd (omega (arith, other))
xor_ones (suc zero) zero small other = refl
xor_ones (suc zero) (suc zero) small other = refl
xor_ones (suc zero) (suc (suc b)) small other = absurd (omega (arith, other))
xor_ones (suc (suc a)) b small other = absurd (omega (arith, small))

xor_byte : (a b c k : ℕ) → c ≡ bit_xor a b → (c / 2 ^ k % 2 == 1) ≡ not (beq (a / 2 ^ k % 2 == 1) (b / 2 ^ k % 2 == 1))
xor_byte a b c k e =
    ap (λ n. n / 2 ^ k % 2 == 1) e
    ∙ ap (λ n. n == 1) (bit_at_xor a b k)
    ∙ xor_ones (a / 2 ^ k % 2) (b / 2 ^ k % 2) (bit_at-lt a k) (bit_at-lt b k)

pub unlike_bits : (new old other : List ℕ) → ((i : ℕ) → i < 512 → get_or new i 0 ≡ bit_xor (get_or old i 0) (get_or other i 0)) → (p : ℕ)
    → bit (bits_of new) p ≡ not (beq (bit (bits_of old) p) (bit (bits_of other) p))
unlike_bits new old other each p = at (cases_lt p 4096)
  where
    at : (p < 4096) ⊎ (4096 ≤ p) → bit (bits_of new) p ≡ not (beq (bit (bits_of old) p) (bit (bits_of other) p))
    at (inl lt) =
        bit_within new p lt
        ∙ xor_byte (get_or old (p / 8) 0) (get_or other (p / 8) 0) (get_or new (p / 8) 0) (p % 8) (each (p / 8) (omega arith))
        ∙ sym (ap₂ (λ (a b : Bool). not (beq a b)) (bit_within old p lt) (bit_within other p lt))
    at (inr le) = bit_past new p le ∙ sym (ap₂ (λ (a b : Bool). not (beq a b)) (bit_past old p le) (bit_past other p le))

-- to set besides the bits of another row changes those that were lacked
pub lacked_bit_is : (a b c d : Bool) → c ≡ (a || b) → d ≡ not (beq c a) → d ≡ (b && not a)
lacked_bit_is true true c d e f = f ∙ ap (λ (x : Bool). not (beq x true)) e
lacked_bit_is true false c d e f = f ∙ ap (λ (x : Bool). not (beq x true)) e
lacked_bit_is false true c d e f = f ∙ ap (λ (x : Bool). not (beq x false)) e
lacked_bit_is false false c d e f = f ∙ ap (λ (x : Bool). not (beq x false)) e

turned_one : (a : ℕ) → a < 2 → (1 - a == 1) ≡ not (a == 1)
turned_one zero small = refl
turned_one (suc zero) small = refl
turned_one (suc (suc a)) small = absurd (omega (arith, small))

pub turned_bits : (new old : List ℕ) → AreRowBytes old → ((i : ℕ) → i < 512 → get_or new i 0 ≡ bit_not w8 (get_or old i 0)) → (p : ℕ) → p < 4096
    → bit (bits_of new) p ≡ not (bit (bits_of old) p)
turned_bits new old fits each p lt =
    bit_within new p lt
    ∙ ap (λ n. n / 2 ^ (p % 8) % 2 == 1) (each (p / 8) (omega arith))
    ∙ ap (λ n. n == 1) (bit_at_not w8 (get_or old (p / 8) 0) (p % 8) (fits.small (p / 8)) (omega arith))
    ∙ turned_one (bit_at (get_or old (p / 8) 0) (p % 8)) (bit_at-lt (get_or old (p / 8) 0) (p % 8))
    ∙ sym (ap not (bit_within old p lt))
