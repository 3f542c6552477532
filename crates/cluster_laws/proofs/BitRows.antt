-- The bits of rows that are sent as bytes.
use Rattle.std.proofs.Common.{◌≡◌, ℕ, zero, suc, ◌/◌, ◌%◌, ◌^◌, ◌<◌, ◌≤◌, ◌==◌, true, false, List, [], ◌∷◌, length, replicate, get_or, refl, sym, ap, ◌∙◌, arith, ◌⊎◌, ⊎_elim}
use Rattle.std.proofs.Math.Nat.{zero-div}
use Rattle.std.proofs.Math.ListN.{get_or-append}
use Rattle.std.proofs.lemmas.List.{get_or-replicate, get_or_past}
use Rattle.std.proofs.lemmas.List.FromFn.{length-map-range_with_len, get_or-map-range_with_len}
use Rattle.cluster_types.specs.Rows.{bit}
use Rattle.cluster_types.specs.RowBytes.{byte_bit, bits_of}
use Rattle.cluster_laws.specs.Weaker.{all_bits, no_bits_bytes, last_bit}
use Rattle.cluster_laws.proofs.At.{differ}

bit_of : (bytes : List ℕ) (p : ℕ) → p < 4096 → bit (bits_of bytes) p ≡ (get_or bytes (p / 8) 0 / 2 ^ (p % 8) % 2 == 1)
unfolding bits_of
bit_of bytes p lt = get_or-map-range_with_len (byte_bit bytes) 0 4096 p p false lt (omega arith)

pub is_set : bit (bits_of all_bits) 4095 ≡ true
is_set = bit_of all_bits 4095 (omega arith)

pub is_last : bit (bits_of last_bit) 4095 ≡ true
is_last = bit_of last_bit 4095 (omega arith)

-- no bit is set past the end
within : (bytes : List ℕ) (p : ℕ) → bit (bits_of bytes) p ≡ true → p < 4096
unfolding bits_of
within bytes p e = ⊎_elim (λ lt. lt) (λ le. differ e (get_or_past (bits_of bytes) p false le)) below
  where
    below : (p < 4096) ⊎ (length (bits_of bytes) ≤ p)
    below = let size : length (bits_of bytes) ≡ 4096 = length-map-range_with_len (byte_bit bytes) 0 4096 in grind (arith, size)

-- a byte of zero has no bit
no_bit : (n b : ℕ) → n ≡ 0 → (n / 2 ^ b % 2 == 1) ≡ false
no_bit n b e = ap (λ (m : ℕ). m / 2 ^ b % 2 == 1) e ∙ ap (λ (m : ℕ). m % 2 == 1) (zero-div (2 ^ b))

pub is_clear : (p : ℕ) → bit (bits_of no_bits_bytes) p ≡ true → ⊥
is_clear p e = let lt : p < 4096 = within no_bits_bytes p e in differ (sym (bit_of no_bits_bytes p lt) ∙ e) (no_bit _ (p % 8) (get_or-replicate 512 (p / 8) 0 0 (omega (arith, lt))))

-- of a byte of 128 the last bit alone is set
top_bit : (b : ℕ) → b < 8 → (128 / 2 ^ b % 2 == 1) ≡ true → b ≡ 7
top_bit zero lt e = differ e refl
top_bit (suc zero) lt e = differ e refl
top_bit (suc (suc zero)) lt e = differ e refl
top_bit (suc (suc (suc zero))) lt e = differ e refl
top_bit (suc (suc (suc (suc zero)))) lt e = differ e refl
top_bit (suc (suc (suc (suc (suc zero))))) lt e = differ e refl
top_bit (suc (suc (suc (suc (suc (suc zero)))))) lt e = differ e refl
top_bit (suc (suc (suc (suc (suc (suc (suc zero))))))) lt e = refl
top_bit (suc (suc (suc (suc (suc (suc (suc (suc b)))))))) lt e = absurd (omega (arith, lt))

pub only_last : (p : ℕ) → bit (bits_of last_bit) p ≡ true → p ≡ 4095
only_last p e = ⊎_elim early late place
  where
    lt : p < 4096
    lt = within last_bit p e

    here : (get_or last_bit (p / 8) 0 / 2 ^ (p % 8) % 2 == 1) ≡ true
    here = sym (bit_of last_bit p lt) ∙ e

    place : (p / 8 < 511) ⊎ (p / 8 ≡ 511)
    place = grind (arith, lt)

    early : p / 8 < 511 → p ≡ 4095
    early small = differ here (no_bit _ (p % 8) (get_or-append (replicate 511 0) (128 ∷ []) 0 (p / 8) small ∙ get_or-replicate 511 (p / 8) 0 0 small))

    late : p / 8 ≡ 511 → p ≡ 4095
    late is =
        let byte : get_or last_bit (p / 8) 0 ≡ 128 = ap (λ (i : ℕ). get_or last_bit i 0) is in
        let seven : p % 8 ≡ 7 = top_bit (p % 8) (omega arith) (sym (ap (λ (m : ℕ). m / 2 ^ (p % 8) % 2 == 1) byte) ∙ here) in
        omega (arith, is, seven)
