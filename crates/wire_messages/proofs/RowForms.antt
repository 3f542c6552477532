-- Bit rows are forms: eight bits make a byte, and a byte has them.
use Rattle.std.proofs.Common.{◌≡◌, ◌⊎◌, ◌&&◌, ◌||◌, inl, inr, ℕ, zero, suc, ◌+◌, ◌*◌, ◌/◌, ◌%◌, ◌^◌, ◌<◌, ◌≤◌, Bool, true, false, eqb, List, length, map, get_or, Some, refl, sym, ap, subst, ◌∙◌, arith, lit<}
use Rattle.std.specs.Prelude.{nat_lt, ◌==◌, slice_index}
use Rattle.std.specs.List.{range_with_len}
use Rattle.std.proofs.lemmas.Bool.{and_left, le-ltb, lt-ltb, ne_eqb, eq-eqb, cases_order, eqb-true, eqb-false, cond_both}
use Rattle.std.proofs.lemmas.List.FromFn.{length-map-range_with_len, get_or-map-range_with_len, fill_by_all}
use Rattle.cluster_types.specs.Rows.{bit, IsClear}
use Rattle.cluster_types.specs.RowBytes.{bit_number, row_byte, bytes_of, byte_bit, bits_of}
use Rattle.cluster_types.proofs.BoolFacts.{or_none as or_false}
use Rattle.wire_messages.specs.Rows.{row_at, IsRow}
use Rattle.wire_messages.proofs.Forms.{IsBytes, Small, IsForm, field_form}

number_bit : (b : Bool) → (bit_number b == 1) ≡ b
number_bit true = refl
number_bit false = refl

bit_of_number : (n : ℕ) → n < 2 → bit_number (n == 1) ≡ n
bit_of_number n lt = cond_both (eqb n 1) 1 0 (λ x. x ≡ n) (λ e. sym (eqb-true _ _ e)) (λ e. let ne = eqb-false _ _ e in omega (arith, ne))

bit_below : (b : Bool) → bit_number b < 2
bit_below true = lit< tt
bit_below false = lit< tt

-- eight digits of base 2
abbrev byte_of : ℕ → ℕ → ℕ → ℕ → ℕ → ℕ → ℕ → ℕ → ℕ
byte_of a b c d e f g h = a + 2 * b + 4 * c + 8 * d + 16 * e + 32 * f + 64 * g + 128 * h

pub record AreDigits (a b c d e f g h : ℕ) : Type 0 where
  pub d0 : byte_of a b c d e f g h / 1 % 2 ≡ a
  pub d1 : byte_of a b c d e f g h / 2 % 2 ≡ b
  pub d2 : byte_of a b c d e f g h / 4 % 2 ≡ c
  pub d3 : byte_of a b c d e f g h / 8 % 2 ≡ d
  pub d4 : byte_of a b c d e f g h / 16 % 2 ≡ e
  pub d5 : byte_of a b c d e f g h / 32 % 2 ≡ f
  pub d6 : byte_of a b c d e f g h / 64 % 2 ≡ g
  pub d7 : byte_of a b c d e f g h / 128 % 2 ≡ h

digits : (a b c d e f g h : ℕ) → a < 2 → b < 2 → c < 2 → d < 2 → e < 2 → f < 2 → g < 2 → h < 2 → AreDigits a b c d e f g h
digits a b c d e f g h pa pb pc pd pe pf pg ph = record {
  d0 = omega arith;
  d1 = omega arith;
  d2 = omega arith;
  d3 = omega arith;
  d4 = omega arith;
  d5 = omega arith;
  d6 = omega arith;
  d7 = omega arith;
}

byte_is : (n : ℕ) → n < 256 → byte_of (n / 1 % 2) (n / 2 % 2) (n / 4 % 2) (n / 8 % 2) (n / 16 % 2) (n / 32 % 2) (n / 64 % 2) (n / 128 % 2) ≡ n
byte_is n lt = omega arith

-- ---- a row is read again

row_digits : (row : List Bool) (i : ℕ) → AreDigits (bit_number (bit row (8 * i))) (bit_number (bit row (8 * i + 1))) (bit_number (bit row (8 * i + 2))) (bit_number (bit row (8 * i + 3)))
    (bit_number (bit row (8 * i + 4))) (bit_number (bit row (8 * i + 5))) (bit_number (bit row (8 * i + 6))) (bit_number (bit row (8 * i + 7)))
row_digits row i = digits _ _ _ _ _ _ _ _ (bit_below (bit row (8 * i))) (bit_below (bit row (8 * i + 1))) (bit_below (bit row (8 * i + 2))) (bit_below (bit row (8 * i + 3)))
    (bit_below (bit row (8 * i + 4))) (bit_below (bit row (8 * i + 5))) (bit_below (bit row (8 * i + 6))) (bit_below (bit row (8 * i + 7)))

digit_is : (n : ℕ) (b : Bool) → n ≡ bit_number b → (n == 1) ≡ b
digit_is n b e = ap (λ m. m == 1) e ∙ number_bit b

bit_of_byte : (row : List Bool) (i b : ℕ) → b < 8 → (row_byte row i / 2 ^ b % 2 == 1) ≡ bit row (8 * i + b)
bit_of_byte row i zero lt = digit_is _ (bit row (8 * i)) (row_digits row i).d0 ∙ ap (bit row) (let e : 8 * i ≡ 8 * i + 0 = omega arith in e)
bit_of_byte row i (suc zero) lt = digit_is _ (bit row (8 * i + 1)) (row_digits row i).d1
bit_of_byte row i (suc (suc zero)) lt = digit_is _ (bit row (8 * i + 2)) (row_digits row i).d2
bit_of_byte row i (suc (suc (suc zero))) lt = digit_is _ (bit row (8 * i + 3)) (row_digits row i).d3
bit_of_byte row i (suc (suc (suc (suc zero)))) lt = digit_is _ (bit row (8 * i + 4)) (row_digits row i).d4
bit_of_byte row i (suc (suc (suc (suc (suc zero))))) lt = digit_is _ (bit row (8 * i + 5)) (row_digits row i).d5
bit_of_byte row i (suc (suc (suc (suc (suc (suc zero)))))) lt = digit_is _ (bit row (8 * i + 6)) (row_digits row i).d6
bit_of_byte row i (suc (suc (suc (suc (suc (suc (suc zero))))))) lt = digit_is _ (bit row (8 * i + 7)) (row_digits row i).d7
bit_of_byte row i (suc (suc (suc (suc (suc (suc (suc (suc b)))))))) lt = absurd (omega (arith, lt))

field_byte : (row : List Bool) (i : ℕ) → i < 512 → slice_index (bytes_of row) i ≡ row_byte row i
unfolding bytes_of
field_byte row i lt = get_or-map-range_with_len (row_byte row) 0 512 i i 0 lt (omega arith)

field_bit : (row : List Bool) (p : ℕ) → p < 4096 → byte_bit (bytes_of row) p ≡ bit row p
field_bit row p lt =
    ap (λ n. n / 2 ^ (p % 8) % 2 == 1) (field_byte row (p / 8) (omega arith))
    ∙ bit_of_byte row (p / 8) (p % 8) (omega arith)
    ∙ ap (bit row) (let e : 8 * (p / 8) + p % 8 ≡ p = omega arith in e)

row_again : (row : List Bool) → length row ≡ 4096 → bits_of (bytes_of row) ≡ row
unfolding bits_of
row_again row size = sym (fill_by_all (byte_bit (bytes_of row)) row 4096 false size (λ p lt. sym (field_bit row p lt)))

-- ---- a row was written so

bit_at : (bytes : List ℕ) (i b p : ℕ) → i < 512 → b < 8 → p ≡ 8 * i + b → bit (bits_of bytes) p ≡ (get_or bytes i 0 / 2 ^ b % 2 == 1)
unfolding bits_of
bit_at bytes i b p lt small is =
    get_or-map-range_with_len (byte_bit bytes) 0 4096 p p false (omega arith) (omega arith)
    ∙ ap (λ j. get_or bytes j 0 / 2 ^ (p % 8) % 2 == 1) (let e : p / 8 ≡ i = omega arith in e)
    ∙ ap (λ c. get_or bytes i 0 / 2 ^ c % 2 == 1) (let e : p % 8 ≡ b = omega arith in e)

number_at_bit : (bytes : List ℕ) (i b p : ℕ) → i < 512 → b < 8 → p ≡ 8 * i + b → bit_number (bit (bits_of bytes) p) ≡ get_or bytes i 0 / 2 ^ b % 2
number_at_bit bytes i b p lt small is = ap bit_number (bit_at bytes i b p lt small is) ∙ bit_of_number (get_or bytes i 0 / 2 ^ b % 2) (omega arith)

byte_again : (bytes : List ℕ) (i : ℕ) → i < 512 → get_or bytes i 0 < 256 → row_byte (bits_of bytes) i ≡ get_or bytes i 0
byte_again bytes i lt fits =
    rw (
      number_at_bit bytes i 0 (8 * i) lt (lit< tt) (omega arith),
      number_at_bit bytes i 1 (8 * i + 1) lt (lit< tt) refl,
      number_at_bit bytes i 2 (8 * i + 2) lt (lit< tt) refl,
      number_at_bit bytes i 3 (8 * i + 3) lt (lit< tt) refl,
      number_at_bit bytes i 4 (8 * i + 4) lt (lit< tt) refl,
      number_at_bit bytes i 5 (8 * i + 5) lt (lit< tt) refl,
      number_at_bit bytes i 6 (8 * i + 6) lt (lit< tt) refl,
      number_at_bit bytes i 7 (8 * i + 7) lt (lit< tt) refl,
    )
    (byte_is (get_or bytes i 0) fits)

bytes_again : (bytes : List ℕ) → length bytes ≡ 512 → IsBytes bytes → bytes_of (bits_of bytes) ≡ bytes
unfolding bytes_of
bytes_again bytes size fits = sym (fill_by_all (row_byte (bits_of bytes)) bytes 512 0 size (λ i lt. sym (byte_again bytes i lt (fits i))))

row_size : (bytes : List ℕ) → length (bits_of bytes) ≡ 4096
unfolding bits_of
row_size bytes = length-map-range_with_len (byte_bit bytes) 0 4096

field_size : (row : List Bool) → length (bytes_of row) ≡ 512
unfolding bytes_of
field_size row = length-map-range_with_len (row_byte row) 0 512

byte_below : (row : List Bool) (i : ℕ) → row_byte row i < 256
byte_below row i =
    omega (
      arith,
      bit_below (bit row (8 * i)),
      bit_below (bit row (8 * i + 1)),
      bit_below (bit row (8 * i + 2)),
      bit_below (bit row (8 * i + 3)),
      bit_below (bit row (8 * i + 4)),
      bit_below (bit row (8 * i + 5)),
      bit_below (bit row (8 * i + 6)),
      bit_below (bit row (8 * i + 7)),
    )

all_below : (row : List Bool) (a n : ℕ) → Small (map (row_byte row) (range_with_len a n))
all_below row a zero = tt
all_below row a (suc n) = (byte_below row a, all_below row (a + 1) n)

field_small : (row : List Bool) → Small (bytes_of row)
unfolding bytes_of
field_small row = all_below row 0 512

pub row_form : IsForm IsRow bytes_of row_at
unfolding row_at
row_form = field_form IsRow bytes_of 512 (λ b. Some (bits_of b))
    (λ row p. field_size row)
    (λ row p. ap (λ r. Some r) (row_again row p.size))
    (λ bytes row len fits e.
    let is : bits_of bytes ≡ row = cc in
    (subst IsRow is (record { size = row_size bytes }), ap bytes_of (sym is) ∙ bytes_again bytes len fits))
    (λ row p. field_small row)

-- ---- a row is read bit by bit

pub no_bits : (row : List Bool) (bytes : List ℕ) → IsClear row → (q : ℕ) → bit row q ≡ (nat_lt q 0 && byte_bit bytes q)
no_bits row bytes h q = h.clear q ∙ sym (and_left (nat_lt q 0) (byte_bit bytes q) (le-ltb q 0 (omega arith)))

pub more_bits : (old new : List Bool) (bytes : List ℕ) (p : ℕ) → ((q : ℕ) → bit new q ≡ (bit old q || ((q == p) && byte_bit bytes p)))
    → ((q : ℕ) → bit old q ≡ (nat_lt q p && byte_bit bytes q)) → (q : ℕ) → bit new q ≡ (nat_lt q (p + 1) && byte_bit bytes q)
more_bits old new bytes p put h q =
    put q ∙ ap (λ b. b || ((q == p) && byte_bit bytes p)) (h q) ∙ at (cases_order q p)
  where
    at : (q ≡ p) ⊎ ((q < p) ⊎ (p < q)) → ((nat_lt q p && byte_bit bytes q) || ((q == p) && byte_bit bytes p)) ≡ (nat_lt q (p + 1) && byte_bit bytes q)
    at (inl e) = rw (e, le-ltb p p (omega arith), eq-eqb p p refl, lt-ltb p (p + 1) (omega arith)) refl
    at (inr (inl lt)) = rw (lt-ltb q p lt, ne_eqb q p (λ e. omega (arith, e, lt)), lt-ltb q (p + 1) (omega (arith, lt))) (or_false (byte_bit bytes q))
    at (inr (inr gt)) = rw (le-ltb q p (omega (arith, gt)), ne_eqb q p (λ e. omega (arith, e, gt)), le-ltb q (p + 1) (omega (arith, gt))) refl

pub all_bits : (row : List Bool) (bytes : List ℕ) (p : ℕ) → length row ≡ 4096 → 4096 ≤ p → ((q : ℕ) → bit row q ≡ (nat_lt q p && byte_bit bytes q)) → row ≡ bits_of bytes
unfolding bits_of
all_bits row bytes p size end h =
    fill_by_all (byte_bit bytes) row 4096 false size (λ q lt. h q ∙ ap (λ b. b && byte_bit bytes q) (lt-ltb q p (omega (arith, lt, end))))
