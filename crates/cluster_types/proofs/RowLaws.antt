-- Rows of bits and their bytes.
use Rattle.std.proofs.Common.{◌≡◌, ◌≢◌, ◌⊎◌, ◌||◌, inl, inr, ℕ, zero, suc, ◌+◌, ◌*◌, ◌/◌, ◌%◌, ◌^◌, ◌<◌, ◌≤◌, max, Bool, true, false, List, length, get_or, set, replicate, refl, sym, ap, ap₂, ◌∙◌, arith, length-set, get_or-set_same, get_or-set_other}
use Rattle.std.specs.Prelude.{◌==◌, bit_or}
use Rattle.std.specs.Bool.{beq}
use Rattle.std.specs.Cmp.{booleans_Decides}
use Rattle.std.specs.Cmp.Lexicographic.{pointwise}
use Rattle.std.specs.Int.{w8, bit_at}
use Rattle.std.proofs.lemmas.Bool.{cases_eq, cases_lt, or_right}
use Rattle.std.proofs.lemmas.Bool.Decides.{Decides-eqb, Decides-like, same_from_decides}
use Rattle.std.proofs.lemmas.List.{get_or_past, length-replicate}
use Rattle.std.proofs.lemmas.List.FromFn.{length-map-range_with_len, get_or-map-range_with_len, fill_by_all}
use Rattle.std.proofs.lemmas.Nat.{or_lt}
use Rattle.std.proofs.lemmas.Nat.Bits.{bit_at-lt, bit_at-zero, bit_at_or, bit_at_set_other, bit_at_set_same, same_from_bits_below}
use Rattle.std.proofs.lemmas.Slice.Eq.{slice_eq-Decides}
use Rattle.cluster_types.specs.RowBytes.{AreRowBytes, bits_of, byte_bit, bytes_again, bytes_of}
use Rattle.cluster_types.specs.Rows.{bit, IsClear}

-- ---- the bits of bytes

pub bits_size : (bytes : List ℕ) → length (bits_of bytes) ≡ 4096
unfolding bits_of
bits_size bytes = length-map-range_with_len (byte_bit bytes) 0 4096

pub bit_within : (bytes : List ℕ) (p : ℕ) → p < 4096 → bit (bits_of bytes) p ≡ byte_bit bytes p
unfolding bits_of
bit_within bytes p lt = get_or-map-range_with_len (byte_bit bytes) 0 4096 p p false lt (omega arith)

pub bit_past : (bytes : List ℕ) (p : ℕ) → 4096 ≤ p → bit (bits_of bytes) p ≡ false
bit_past bytes p le = get_or_past (bits_of bytes) p false (omega (arith, bits_size bytes, le))

pub same_bits : (bytes : List ℕ) (row : List Bool) → length row ≡ 4096 → ((p : ℕ) → p < 4096 → bit row p ≡ byte_bit bytes p) → row ≡ bits_of bytes
unfolding bits_of
same_bits bytes row size each = fill_by_all (byte_bit bytes) row 4096 false size each

-- ---- a row in which no bit is set

-- so many bytes 0
abbrev pub zeros : ℕ → List ℕ
zeros n = replicate n 0

zero_at : (n i : ℕ) → get_or (zeros n) i 0 ≡ 0
zero_at zero i = refl
zero_at (suc n) zero = refl
zero_at (suc n) (suc i) = zero_at n i

pub zero_bytes : (n : ℕ) → n ≡ 512 → AreRowBytes (zeros n)
zero_bytes n e = record {
  size = length-replicate n 0 ∙ e;
  small = λ i. let is = zero_at n i in omega (arith, is);
}

pub clear_row : (n : ℕ) → IsClear (bits_of (zeros n))
clear_row n = record { clear = λ p. at p (cases_lt p 4096) }
  where
    at : (p : ℕ) → (p < 4096) ⊎ (4096 ≤ p) → bit (bits_of (zeros n)) p ≡ false
    at p (inl lt) = bit_within (zeros n) p lt ∙ ap (λ b. b / 2 ^ (p % 8) % 2 == 1) (zero_at n (p / 8)) ∙ ap (λ b. b == 1) (bit_at-zero (p % 8))
    at p (inr le) = bit_past (zeros n) p le

-- ---- one bit is set

-- the bytes once the bit of partition p is set
abbrev pub with_bit : List ℕ → ℕ → List ℕ
with_bit bytes p = set bytes (p / 8) (bit_or (get_or bytes (p / 8) 0) (1 * 2 ^ (p % 8) % 2 ^ 8))

set_there : (bytes : List ℕ) (p : ℕ) → p / 8 < length bytes → byte_bit (with_bit bytes p) p ≡ true
set_there bytes p lt =
    ap (λ b. b / 2 ^ (p % 8) % 2 == 1) (get_or-set_same bytes (p / 8) (bit_or (get_or bytes (p / 8) 0) (1 * 2 ^ (p % 8) % 2 ^ 8)) 0 lt)
    ∙ ap (λ b. b == 1) (bit_at_set_same w8 (get_or bytes (p / 8) 0) (p % 8) (omega arith))

same_elsewhere : (bytes : List ℕ) (p q : ℕ) → p / 8 < length bytes → q ≢ p → byte_bit (with_bit bytes p) q ≡ byte_bit bytes q
same_elsewhere bytes p q lt ne = at (cases_eq (q / 8) (p / 8))
  where
    at : (q / 8 ≡ p / 8) ⊎ (q / 8 ≢ p / 8) → byte_bit (with_bit bytes p) q ≡ byte_bit bytes q
    at (inl e) =
        ap (λ i. get_or (with_bit bytes p) i 0 / 2 ^ (q % 8) % 2 == 1) e
        ∙ ap (λ b. b / 2 ^ (q % 8) % 2 == 1) (get_or-set_same bytes (p / 8) (bit_or (get_or bytes (p / 8) 0) (1 * 2 ^ (p % 8) % 2 ^ 8)) 0 lt)
        ∙ ap (λ b. b == 1) (bit_at_set_other w8 (get_or bytes (p / 8) 0) (p % 8) (omega arith) (q % 8) (λ f. ne (omega (arith, e, f))))
        ∙ ap (λ i. get_or bytes i 0 / 2 ^ (q % 8) % 2 == 1) (sym e)
    at (inr other) = ap (λ b. b / 2 ^ (q % 8) % 2 == 1) (get_or-set_other bytes (p / 8) (q / 8) (bit_or (get_or bytes (p / 8) 0) (1 * 2 ^ (p % 8) % 2 ^ 8)) 0 other)

pub row_with_bit : (bytes : List ℕ) (p : ℕ) → length bytes ≡ 512 → p < 4096 → bits_of (with_bit bytes p) ≡ set (bits_of bytes) p true
row_with_bit bytes p size lt =
    sym (same_bits (with_bit bytes p) (set (bits_of bytes) p true) (length-set (bits_of bytes) p true ∙ bits_size bytes) (λ q within. at q within (cases_eq q p)))
  where
    at : (q : ℕ) → q < 4096 → (q ≡ p) ⊎ (q ≢ p) → bit (set (bits_of bytes) p true) q ≡ byte_bit (with_bit bytes p) q
    at q within (inl e) =
        ap (λ r. bit (set (bits_of bytes) p true) r) e
        ∙ get_or-set_same (bits_of bytes) p true false (omega (arith, bits_size bytes))
        ∙ sym (set_there bytes p (omega arith))
        ∙ ap (byte_bit (with_bit bytes p)) (sym e)
    at q within (inr ne) =
        get_or-set_other (bits_of bytes) p q true false ne
        ∙ bit_within bytes q within
        ∙ sym (same_elsewhere bytes p q (omega arith) ne)

-- ---- the bits of two rows

or_ones : (a b : ℕ) → a < 2 → b < 2 → (max a b == 1) ≡ ((a == 1) || (b == 1))
or_ones zero zero small other = refl
or_ones zero (suc zero) small other = refl
or_ones zero (suc (suc b)) small other = absurd (omega (arith, other))
or_ones (suc zero) zero small other = refl
or_ones (suc zero) (suc zero) small other = refl
or_ones (suc zero) (suc (suc b)) small other = absurd (omega (arith, other))
or_ones (suc (suc a)) b small other = absurd (omega (arith, small))

or_byte : (a b c k : ℕ) → c ≡ bit_or a b → (c / 2 ^ k % 2 == 1) ≡ ((a / 2 ^ k % 2 == 1) || (b / 2 ^ k % 2 == 1))
or_byte a b c k e =
    ap (λ n. n / 2 ^ k % 2 == 1) e
    ∙ ap (λ n. n == 1) (bit_at_or a b k)
    ∙ or_ones (a / 2 ^ k % 2) (b / 2 ^ k % 2) (bit_at-lt a k) (bit_at-lt b k)

pub or_bits : (new old other : List ℕ) → ((i : ℕ) → i < 512 → get_or new i 0 ≡ bit_or (get_or old i 0) (get_or other i 0)) → (p : ℕ)
    → bit (bits_of new) p ≡ (bit (bits_of old) p || bit (bits_of other) p)
or_bits new old other each p = at (cases_lt p 4096)
  where
    at : (p < 4096) ⊎ (4096 ≤ p) → bit (bits_of new) p ≡ (bit (bits_of old) p || bit (bits_of other) p)
    at (inl lt) =
        bit_within new p lt
        ∙ or_byte (get_or old (p / 8) 0) (get_or other (p / 8) 0) (get_or new (p / 8) 0) (p % 8) (each (p / 8) (omega arith))
        ∙ sym (ap₂ (λ (a b : Bool). a || b) (bit_within old p lt) (bit_within other p lt))
    at (inr le) = bit_past new p le ∙ sym (ap₂ (λ (a b : Bool). a || b) (bit_past old p le) (bit_past other p le))

pub has_each : (bytes other : List ℕ) → ((i : ℕ) → i < 512 → bit_or (get_or bytes i 0) (get_or other i 0) ≡ get_or bytes i 0) → (p : ℕ)
    → bit (bits_of other) p ≡ true → bit (bits_of bytes) p ≡ true
has_each bytes other each p there =
    or_bits bytes bytes other (λ i lt. sym (each i lt)) p ∙ or_right (bit (bits_of bytes) p) (bit (bits_of other) p) there

-- a bit below k that b has and a lacks
record LackedBelow (a b k : ℕ) : Type 0 where
  place : ℕ
  below : place < k
  there : bit_at b place ≡ 1
  lacked : bit_at a place ≡ 0

-- none of the bits below k
record HasBelow (a b k : ℕ) : Type 0 where
  each : (i : ℕ) → i < k → max (bit_at a i) (bit_at b i) ≡ bit_at a i

has_or_lacks : (a b k : ℕ) → HasBelow a b k ⊎ LackedBelow a b k
has_or_lacks a b zero = inl (record { each = λ i lt. absurd (omega (arith, lt)) })
has_or_lacks a b (suc k) = at (has_or_lacks a b k) (cases_eq (max (bit_at a k) (bit_at b k)) (bit_at a k))
  where
    at : HasBelow a b k ⊎ LackedBelow a b k → (max (bit_at a k) (bit_at b k) ≡ bit_at a k) ⊎ (max (bit_at a k) (bit_at b k) ≢ bit_at a k) → HasBelow a b (suc k) ⊎ LackedBelow a b (suc k)
    at (inr h) t = inr (record { place = h.place; below = let lt = h.below in omega (arith, lt); there = h.there; lacked = h.lacked })
    at (inl h) (inl e) = inl (record { each = λ i lt. step i lt (cases_eq i k) })
      where
        step : (i : ℕ) → i < suc k → (i ≡ k) ⊎ (i ≢ k) → max (bit_at a i) (bit_at b i) ≡ bit_at a i
        step i lt (inl same) = rw same e
        step i lt (inr ne) = h.each i (omega (arith, lt, ne))
    at (inl h) (inr ne) =
        let small = bit_at-lt a k in
        let other = bit_at-lt b k in
        inr (record { place = k; below = omega arith; there = omega (arith, ne, small, other); lacked = omega (arith, ne, small, other) })

lacked_bit : (a b : ℕ) → a < 256 → b < 256 → bit_or a b ≢ a → LackedBelow a b 8
lacked_bit a b small other ne = at (has_or_lacks a b 8)
  where
    at : HasBelow a b 8 ⊎ LackedBelow a b 8 → LackedBelow a b 8
    at (inr h) = h
    at (inl h) = absurd (ne (same_from_bits_below 8 (bit_or a b) a (or_lt 8 a b small other) small (λ i lt. bit_at_or a b i ∙ h.each i lt)))

pub lacked_in : (bytes other : List ℕ) (i : ℕ) → i < 512 → get_or bytes i 0 < 256 → get_or other i 0 < 256 → bit_or (get_or bytes i 0) (get_or other i 0) ≢ get_or bytes i 0
    → (p : ℕ) × (p < 4096) × (bit (bits_of other) p ≡ true) × (bit (bits_of bytes) p ≡ false)
lacked_in bytes other i lt small fits ne = at (lacked_bit (get_or bytes i 0) (get_or other i 0) small fits ne)
  where
    at : LackedBelow (get_or bytes i 0) (get_or other i 0) 8 → (p : ℕ) × (p < 4096) × (bit (bits_of other) p ≡ true) × (bit (bits_of bytes) p ≡ false)
    at h =
        let below = h.below in
        let within : 8 * i + h.place < 4096 = omega (arith, lt, below) in
        let byte : (8 * i + h.place) / 8 ≡ i = omega (arith, below) in
        let place : (8 * i + h.place) % 8 ≡ h.place = omega (arith, below) in (
          8 * i + h.place,
          within,
          bit_within other (8 * i + h.place) within ∙ ap₂ (λ (j k : ℕ). get_or other j 0 / 2 ^ k % 2 == 1) byte place ∙ ap (λ n. n == 1) h.there,
          bit_within bytes (8 * i + h.place) within ∙ ap₂ (λ (j k : ℕ). get_or bytes j 0 / 2 ^ k % 2 == 1) byte place ∙ ap (λ n. n == 1) h.lacked,
        )

-- ---- rows with the same bits have the same bytes

pub same_rows : (xs ys : List ℕ) (r : Bool) → AreRowBytes xs → AreRowBytes ys → r ≡ pointwise (λ (a b : ℕ). a == b) xs ys → r ≡ pointwise beq (bits_of xs) (bits_of ys)
same_rows xs ys r fits other e =
    same_from_decides r (pointwise beq (bits_of xs) (bits_of ys))
    (Decides-like r (ap bits_of) (λ same. sym (bytes_again xs fits) ∙ ap bytes_of same ∙ bytes_again ys other) (slice_eq-Decides Decides-eqb xs ys r e))
    (slice_eq-Decides booleans_Decides (bits_of xs) (bits_of ys) (pointwise beq (bits_of xs) (bits_of ys)) refl)
