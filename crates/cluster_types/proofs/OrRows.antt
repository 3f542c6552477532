-- The row with each bit that either of two rows has.
use Rattle.std.proofs.Common.{◌≡◌, ◌||◌, ℕ, zero, suc, Bool, true, false, List, [], ◌∷◌, length, refl, sym, ap, ◌∙◌, arith}
use Rattle.std.proofs.lemmas.List.{ext_get_or}
use Rattle.cluster_types.specs.RowBytes.{bits_of}
use Rattle.cluster_types.specs.Rows.{bit, or_rows}
use Rattle.cluster_types.proofs.RowLaws.{bits_size}

pub or_length : (a b : List Bool) → length a ≡ length b → length (or_rows a b) ≡ length a
or_length [] [] same = refl
or_length [] (b ∷ bs) same = absurd (omega (arith, same))
or_length (a ∷ rest) [] same = refl
or_length (a ∷ rest) (b ∷ bs) same = ap suc (or_length rest bs (omega (arith, same)))

or_false : (a : Bool) → a ≡ (a || false)
or_false true = refl
or_false false = refl

pub or_bit : (a b : List Bool) (p : ℕ) → bit (or_rows a b) p ≡ (bit a p || bit b p)
or_bit [] [] p = refl
or_bit [] (b ∷ bs) p = refl
or_bit (a ∷ rest) [] p = or_false (bit (a ∷ rest) p)
or_bit (a ∷ rest) (b ∷ bs) zero = refl
or_bit (a ∷ rest) (b ∷ bs) (suc p) = or_bit rest bs p

-- a row of one length with both that has each bit that either has
or_is : (a b row : List Bool) → length a ≡ length b → length row ≡ length a → ((p : ℕ) → bit row p ≡ (bit a p || bit b p)) → row ≡ or_rows a b
or_is a b row same size each = ext_get_or false row (or_rows a b) (size ∙ sym (or_length a b same)) (λ p within. each p ∙ sym (or_bit a b p))

-- the same of the rows of bytes
pub or_row : (new old other : List ℕ) → ((p : ℕ) → bit (bits_of new) p ≡ (bit (bits_of old) p || bit (bits_of other) p)) → bits_of new ≡ or_rows (bits_of old) (bits_of other)
or_row new old other each = or_is (bits_of old) (bits_of other) (bits_of new) (bits_size old ∙ sym (bits_size other)) (bits_size new ∙ sym (bits_size old)) each
