-- Numbers in decimal digits.
use Rattle.std.proofs.Common.{◌≡◌, ℕ, ◌<◌, ◌≤◌, ◌^◌, ◌==◌, true, false, cond, ◌&&◌, nat_le, List, [], ◌∷◌, Some, None, refl, sym, ap, ◌∙◌, subst, arith}
use Rattle.std.specs.Prelude.{All}
use Rattle.std.specs.Str.{bytes_eq}
use Rattle.std.specs.Str.Parse.{digits_value, AllDigits}
use Rattle.std.specs.Fmt.{decimal}
use Rattle.std.specs.Cmp.Lexicographic.{same_text, other_text}
use Rattle.std.proofs.lemmas.Bool.{and_parts, and_from, le-leb, leb-true, ne_eqb, true_from_ne_false}
use Rattle.std.proofs.lemmas.Option.{cond_some}
use Rattle.std.proofs.lemmas.List.Elements.{All-nil, All-cons}
use Rattle.std.proofs.lemmas.Str.Parse.{digit_from_value}
use Rattle.std.proofs.lemmas.Fmt.{decimal_is_IsNumeral}
use Rattle.journal_reader.specs.Fields.{number_in, is_written}
use Rattle.journal_reader.proofs.Readers.{Reads}

pub record IsDigit (b : ℕ) : Type 0 where
  pub low : 48 ≤ b
  pub high : b ≤ 57

pub record InRange (least most n : ℕ) : Type 0 where
  pub low : least ≤ n
  pub high : n ≤ most

pub bytes_eq-same : (xs : List ℕ) → bytes_eq xs xs ≡ true
bytes_eq-same xs = true_from_ne_false _ (λ e. other_text xs xs (sym e) refl)

digits_are_clean : (ds : List ℕ) → AllDigits 10 ds → All IsDigit ds
digits_are_clean [] h = All-nil IsDigit
digits_are_clean (d ∷ ds) h =
    let range = digit_from_value d h.0 in
    All-cons IsDigit d ds (record { low = omega (arith, range.0); high = omega (arith, range.1) }) (digits_are_clean ds h.1)

pub decimal_is_clean : (n : ℕ) → n < 2 ^ 64 → All IsDigit (decimal n)
decimal_is_clean n small = digits_are_clean (decimal n) (decimal_is_IsNumeral n small).0.1

number_back : (least most n : ℕ) → most < 2 ^ 64 → InRange least most n → number_in least most (decimal n) ≡ Some n
unfolding number_in
number_back least most n wide g =
    let high = g.high in
    let value : digits_value 10 (decimal n) ≡ n = (decimal_is_IsNumeral n (omega arith)).1 in
    let test : (nat_le least n && nat_le n most && is_written n (decimal n)) ≡ true =
    and_from _ _ (and_from _ _ (le-leb _ _ g.low) (le-leb _ _ g.high)) (bytes_eq-same (decimal n)) in
    ap (λ v. cond (nat_le least v && nat_le v most && is_written v (decimal n)) (Some v) None) value ∙ ap (λ t. cond t (Some n) None) test

number_written : (least most : ℕ) (text : List ℕ) (n : ℕ) → number_in least most text ≡ Some n → (decimal n ≡ text) × InRange least most n
unfolding number_in
number_written least most text n e =
    let v = digits_value 10 text in
    let s = cond_some (nat_le least v && nat_le v most && is_written v text) v n e in
    let parts = and_parts _ _ s.0 in
    let range = and_parts _ _ parts.0 in
    let good : (decimal v ≡ text) × InRange least most v = (same_text _ _ (sym parts.1), record { low = leb-true _ _ range.0; high = leb-true _ _ range.1 }) in
    subst (λ m. (decimal m ≡ text) × InRange least most m) s.1 good

pub reads_number : (least most : ℕ) → most < 2 ^ 64 → Reads IsDigit (InRange least most) decimal (number_in least most)
reads_number least most wide = record {
  again = λ n g. number_back least most n wide g;
  written = λ text n e. number_written least most text n e;
  clean = λ n g. let high = g.high in decimal_is_clean n (omega arith);
}

pub other_than_digit : (byte : ℕ) → byte < 48 → (b : ℕ) → IsDigit b → (b == byte) ≡ false
other_than_digit byte low b d = let least = d.low in ne_eqb b byte (λ e. omega arith)
