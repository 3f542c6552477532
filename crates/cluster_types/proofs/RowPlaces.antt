-- The next bit that is set in bytes.
use Rattle.std.proofs.Common.{◌≡◌, ◌≢◌, ◌⊎◌, inl, inr, ℕ, ◌+◌, ◌-◌, ◌*◌, ◌/◌, ◌%◌, ◌^◌, ◌<◌, ◌≤◌, true, false, List, get_or, Option, Some, None, sym, ap, ap₂, subst, ◌∙◌, arith}
use Rattle.std.specs.Prelude.{◌==◌, SomeIff, MatchOption}
use Rattle.std.specs.Int.{w8, bit_at, trailing_zeros}
use Rattle.std.proofs.lemmas.Bool.{cases_lt}
use Rattle.std.proofs.lemmas.Nat.{shr-shr, shr_le}
use Rattle.std.proofs.lemmas.Nat.Bits.{bit_at-trailing_zeros, bit_at-zero, bit_at_above}
use Rattle.cluster_types.specs.RowBytes.{AreRowBytes, bits_of, byte_bit}
use Rattle.cluster_types.specs.Rows.{bit, IsClearFrom, IsNextSet}
use Rattle.cluster_types.proofs.RowLaws.{bit_past, bit_within}

-- what is left of the byte of partition p from its bit on
abbrev pub rest_of : List ℕ → ℕ → ℕ
rest_of bytes p = get_or bytes (p / 8) 0 / 2 ^ (p % 8)

-- the bits from that of p on in its byte
rest_bit : (bytes : List ℕ) (p k : ℕ) → p % 8 + k < 8 → byte_bit bytes (p + k) ≡ (bit_at (rest_of bytes p) k == 1)
rest_bit bytes p k lt =
    let byte : (p + k) / 8 ≡ p / 8 = omega (arith, lt) in
    let place : (p + k) % 8 ≡ p % 8 + k = omega (arith, lt) in
    ap₂ (λ (i j : ℕ). get_or bytes i 0 / 2 ^ j % 2 == 1) byte place
    ∙ ap (λ n. n % 2 == 1) (sym (shr-shr (get_or bytes (p / 8) 0) (p % 8) k))

rest_bit_within : (bytes : List ℕ) (p q : ℕ) → p < 4096 → p ≤ q → q < 8 * (p / 8) + 8 → bit (bits_of bytes) q ≡ (bit_at (rest_of bytes p) (q - p) == 1)
rest_bit_within bytes p q small le lt =
    let within : q < 4096 = omega (arith, small, lt) in
    let same : p + (q - p) ≡ q = omega (arith, le) in
    let fits : p % 8 + (q - p) < 8 = omega (arith, le, lt) in
    bit_within bytes q within ∙ ap (byte_bit bytes) (sym same) ∙ rest_bit bytes p (q - p) fits

none_in_rest : (bytes : List ℕ) (p q : ℕ) → rest_of bytes p ≡ 0 → p < 4096 → p ≤ q → q < 8 * (p / 8) + 8 → bit (bits_of bytes) q ≡ false
none_in_rest bytes p q none small le lt =
    rest_bit_within bytes p q small le lt ∙ ap (λ n. bit_at n (q - p) == 1) none ∙ ap (λ n. n == 1) (bit_at-zero (q - p))

-- the place of the first bit of the rest
pub record IsFirstOfRest (bytes : List ℕ) (p t : ℕ) : Type 0 where
  pub within : p % 8 + t < 8
  pub set : bit (bits_of bytes) (p + t) ≡ true
  pub none_before : (q : ℕ) → p ≤ q → q < p + t → bit (bits_of bytes) q ≡ false

one_below : (n s t : ℕ) → n < 256 → bit_at (n / 2 ^ s) t ≡ 1 → s + t < 8
one_below n s t small one = at (cases_lt (s + t) 8)
  where
    at : (s + t < 8) ⊎ (8 ≤ s + t) → s + t < 8
    at (inl lt) = lt
    at (inr le) =
        let none = bit_at_above n 8 (s + t) small le in
        let same = ap (λ m. m % 2) (shr-shr n s t) in
        absurd (omega (arith, one, none, same))

first_of_rest : (bytes : List ℕ) (p : ℕ) → AreRowBytes bytes → p < 4096 → 0 < rest_of bytes p → rest_of bytes p < 256 → IsFirstOfRest bytes p (trailing_zeros w8 (rest_of bytes p))
first_of_rest bytes p h small some fits =
    let first = bit_at-trailing_zeros w8 (rest_of bytes p) some fits in
    let within = one_below (get_or bytes (p / 8) 0) (p % 8) (trailing_zeros w8 (rest_of bytes p)) (h.small (p / 8)) first.1 in
    record {
      within = within;
      set = bit_within bytes (p + trailing_zeros w8 (rest_of bytes p)) (omega (arith, small, within)) ∙ rest_bit bytes p (trailing_zeros w8 (rest_of bytes p)) within ∙ ap (λ n. n == 1) first.1;
      none_before = λ q le lt.
          let there : q < 8 * (p / 8) + 8 = omega (arith, within, lt) in
          let before : q - p < trailing_zeros w8 (rest_of bytes p) = omega (arith, le, lt) in
          rest_bit_within bytes p q small le there ∙ ap (λ n. n == 1) (first.2 (q - p) before);
    }

-- the same where i is the place of the byte
pub first_at : (bytes : List ℕ) (p i : ℕ) → AreRowBytes bytes → p < 4096 → i ≡ p / 8 → get_or bytes i 0 / 2 ^ (p % 8) ≢ 0
    → IsFirstOfRest bytes p (trailing_zeros w8 (get_or bytes i 0 / 2 ^ (p % 8)))
first_at bytes p i h small is some =
    subst (λ (j : ℕ). get_or bytes j 0 / 2 ^ (p % 8) ≢ 0 → IsFirstOfRest bytes p (trailing_zeros w8 (get_or bytes j 0 / 2 ^ (p % 8)))) (sym is)
    (λ other.
    let below = shr_le (get_or bytes (p / 8) 0) (p % 8) in
    let fits = h.small (p / 8) in
    first_of_rest bytes p h small (omega (arith, other)) (omega (arith, below, fits)))
    some

-- none is set from that number on up to p
abbrev pub NoneBefore : List ℕ → ℕ → ℕ → Type 0
NoneBefore bytes from p = (q : ℕ) → from ≤ q → q < p → bit (bits_of bytes) q ≡ false

pub none_before_first : (bytes : List ℕ) (from p t : ℕ) → IsFirstOfRest bytes p t → NoneBefore bytes from p → NoneBefore bytes from (p + t)
none_before_first bytes from p t first none q le lt = at (cases_lt q p)
  where
    at : (q < p) ⊎ (p ≤ q) → bit (bits_of bytes) q ≡ false
    at (inl below) = none q le below
    at (inr above) = first.none_before q above lt

pub none_before_next : (bytes : List ℕ) (from p i : ℕ) → p < 4096 → i ≡ p / 8 → get_or bytes i 0 / 2 ^ (p % 8) ≡ 0 → NoneBefore bytes from p → NoneBefore bytes from (8 * (p / 8) + 8)
none_before_next bytes from p i small is zero none q le lt = at (cases_lt q p)
  where
    at : (q < p) ⊎ (p ≤ q) → bit (bits_of bytes) q ≡ false
    at (inl below) = none q le below
    at (inr above) = none_in_rest bytes p q (ap (λ j. get_or bytes j 0 / 2 ^ (p % 8)) (sym is) ∙ zero) small above lt

pub next_from : (bytes : List ℕ) (from n : ℕ) (r : Option ℕ) → SomeIff r (n < 4096) n → ((q : ℕ) → from ≤ q → q < n → bit (bits_of bytes) q ≡ false)
    → (n < 4096 → (from ≤ n) × (bit (bits_of bytes) n ≡ true)) → MatchOption r (IsClearFrom (bits_of bytes) from) (λ p. IsNextSet (bits_of bytes) from p)
next_from bytes from n None past none set = record { clear = λ q le. at q le (cases_lt q 4096) }
  where
    at : (q : ℕ) → from ≤ q → (q < 4096) ⊎ (4096 ≤ q) → bit (bits_of bytes) q ≡ false
    at q le (inl lt) = none q le (omega (arith, lt, past))
    at q le (inr out) = bit_past bytes q out
next_from bytes from n (Some p) is none set =
    subst (λ (m : ℕ). IsNextSet (bits_of bytes) from m) (sym is.1) (record { above = (set is.0).0; set = (set is.0).1; none_between = none })
