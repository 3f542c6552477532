-- Rows of bits as bytes: bit p of a row is bit p mod 8 of byte p div 8.
use Rattle.std.specs.Prelude.{◌≡◌, ℕ, ◌+◌, ◌*◌, ◌/◌, ◌%◌, ◌^◌, ◌<◌, ◌==◌, Bool, false, if◌then◌else◌, List, length, map, slice_index}
use Rattle.std.specs.List.{range_with_len}
use Rattle.std.proofs.Common.{get_or, eqb, refl, sym, ap, ◌∙◌, arith, lit<}
use Rattle.std.proofs.lemmas.Bool.{eqb-true, eqb-false, cond_both}
use Rattle.std.proofs.lemmas.List.FromFn.{get_or-map-range_with_len, fill_by_all}
use Rattle.cluster_types.specs.Rows.{bit}

-- the bit of partition p in these bytes
abbrev pub byte_bit : List ℕ → ℕ → Bool
byte_bit bytes p = slice_index bytes (p / 8) / 2 ^ (p % 8) % 2 == 1

-- the row of which these are the bytes
unfoldable pub bits_of : List ℕ → List Bool
bits_of bytes = map (byte_bit bytes) (range_with_len 0 4096)

-- 1 where the bit is set, and otherwise 0
abbrev pub bit_number : Bool → ℕ
bit_number b = if b then 1 else 0

-- byte i has the bits of the partitions 8 * i to 8 * i + 7, that of the least partition lowest
abbrev pub row_byte : List Bool → ℕ → ℕ
row_byte row i =
    bit_number (bit row (8 * i)) + 2 * bit_number (bit row (8 * i + 1))
    + 4 * bit_number (bit row (8 * i + 2)) + 8 * bit_number (bit row (8 * i + 3))
    + 16 * bit_number (bit row (8 * i + 4)) + 32 * bit_number (bit row (8 * i + 5))
    + 64 * bit_number (bit row (8 * i + 6)) + 128 * bit_number (bit row (8 * i + 7))

-- the bytes of a row
unfoldable pub bytes_of : List Bool → List ℕ
bytes_of row = map (row_byte row) (range_with_len 0 512)

-- as many bytes as a row has
pub record AreRowBytes (bytes : List ℕ) : Type 0 where
  pub size : length bytes ≡ 512
  pub small : (i : ℕ) → slice_index bytes i < 256

-- ---- the bytes of a row are those of which it was made

bit_of_number : (n : ℕ) → n < 2 → bit_number (n == 1) ≡ n
bit_of_number n lt =
    cond_both (eqb n 1) 1 0 (λ x. x ≡ n) (λ e. sym (eqb-true _ _ e))
    (λ e. let ne = eqb-false _ _ e in omega (arith, ne))

-- eight digits of base 2
abbrev byte_with : ℕ → ℕ → ℕ → ℕ → ℕ → ℕ → ℕ → ℕ → ℕ
byte_with a b c d e f g h = a + 2 * b + 4 * c + 8 * d + 16 * e + 32 * f + 64 * g + 128 * h

byte_is : (n : ℕ) → n < 256
    → byte_with (n / 1 % 2) (n / 2 % 2) (n / 4 % 2) (n / 8 % 2) (n / 16 % 2) (n / 32 % 2)
    (n / 64 % 2) (n / 128 % 2)
    ≡ n
byte_is n lt = omega arith

bit_at : (bytes : List ℕ) (i b p : ℕ) → i < 512 → b < 8 → p ≡ 8 * i + b
    → bit (bits_of bytes) p ≡ (get_or bytes i 0 / 2 ^ b % 2 == 1)
unfolding bits_of
bit_at bytes i b p lt small is =
    get_or-map-range_with_len (byte_bit bytes) 0 4096 p p false (omega arith) (omega arith)
    ∙ ap (λ j. get_or bytes j 0 / 2 ^ (p % 8) % 2 == 1) (let e : p / 8 ≡ i = omega arith in e)
    ∙ ap (λ c. get_or bytes i 0 / 2 ^ c % 2 == 1) (let e : p % 8 ≡ b = omega arith in e)

number_at_bit : (bytes : List ℕ) (i b p : ℕ) → i < 512 → b < 8 → p ≡ 8 * i + b
    → bit_number (bit (bits_of bytes) p) ≡ get_or bytes i 0 / 2 ^ b % 2
number_at_bit bytes i b p lt small is =
    ap bit_number (bit_at bytes i b p lt small is)
    ∙ bit_of_number (get_or bytes i 0 / 2 ^ b % 2) (omega arith)

byte_again : (bytes : List ℕ) (i : ℕ) → i < 512 → get_or bytes i 0 < 256
    → row_byte (bits_of bytes) i ≡ get_or bytes i 0
byte_again bytes i lt fits =
    rw (
      number_at_bit bytes i 0 (8 * i) lt (lit< tt) (omega arith),
      number_at_bit bytes i 1 (8 * i + 1) lt (lit< tt) refl,
      number_at_bit bytes i 2 (8 * i + 2) lt (lit< tt) refl,
      number_at_bit bytes i 3 (8 * i + 3) lt (lit< tt) refl,
      number_at_bit bytes i 4 (8 * i + 4) lt (lit< tt) refl,
      number_at_bit bytes i 5 (8 * i + 5) lt (lit< tt) refl,
      number_at_bit bytes i 6 (8 * i + 6) lt (lit< tt) refl,
      number_at_bit bytes i 7 (8 * i + 7) lt (lit< tt) refl,
    )
    (byte_is (get_or bytes i 0) fits)

pub bytes_again : (bytes : List ℕ) → AreRowBytes bytes → bytes_of (bits_of bytes) ≡ bytes
unfolding bytes_of
bytes_again bytes h =
    sym (fill_by_all (row_byte (bits_of bytes)) bytes 512 0 h.size
    (λ i lt. sym (byte_again bytes i lt (h.small i))))
