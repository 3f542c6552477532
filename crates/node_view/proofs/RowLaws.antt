-- Rows of bits by index.
use Rattle.std.proofs.Common.{◌≡◌, ◌<◌, ◌+◌, ℕ, zero, suc, Bool, List, [], ◌∷◌, length, refl, sym, ap, ap₂, ◌∙◌, arith}
use Rattle.cluster_types.specs.Rows.{bit}
use Rattle.node_rules.specs.Tables.{bits_from}

-- rows of the same length with the same bits are the same
pub same_bits : (a b : List Bool) → length a ≡ length b → ((p : ℕ) → p < length a → bit a p ≡ bit b p) → a ≡ b
same_bits [] [] e same = refl
same_bits [] (y ∷ b) e same = absurd (omega (arith, e))
same_bits (x ∷ a) [] e same = absurd (omega (arith, e))
same_bits (x ∷ a) (y ∷ b) e same =
    ap₂ (λ (z : Bool) (zs : List Bool). z ∷ zs) (same 0 (omega arith)) (same_bits a b (omega (arith, e)) (λ p within. same (suc p) (omega (arith, within))))

pub bits_from_at : (test : ℕ → Bool) (n p q : ℕ) → q < n → bit (bits_from test n p) q ≡ test (p + q)
unfolding bits_from
bits_from_at test zero p q within = absurd (omega (arith, within))
bits_from_at test (suc n) p zero within = ap test (omega arith)
bits_from_at test (suc n) p (suc q) within =
    bits_from_at test n (p + 1) q (omega (arith, within)) ∙ ap test (shift p q)
  where
    shift : (p q : ℕ) → (p + 1) + q ≡ p + suc q
    shift p q = omega arith

pub bits_from_length : (test : ℕ → Bool) (n p : ℕ) → length (bits_from test n p) ≡ n
unfolding bits_from
bits_from_length test zero p = refl
bits_from_length test (suc n) p = ap suc (bits_from_length test n (p + 1))

-- a row that has these bits
pub row_of_bits : (row : List Bool) (test : ℕ → Bool) (n : ℕ) → length row ≡ n → ((p : ℕ) → p < n → bit row p ≡ test p) → row ≡ bits_from test n 0
row_of_bits row test n size at =
    same_bits row (bits_from test n 0) (size ∙ sym (bits_from_length test n 0))
    (λ p within. at p (omega (arith, within, size)) ∙ sym (bits_from_at test n 0 p (omega (arith, within, size)) ∙ ap test (plain p)))
  where
    plain : (p : ℕ) → 0 + p ≡ p
    plain p = omega arith
