-- What `parse` says of a number in decimal digits.
use Rattle.std.proofs.Common.{◌≡◌, ℕ, ◌<◌, ◌^◌, inl, inr, true, false, List, length, get_or, Option, Some, None, Result, Ok, Err, refl, sym, ap, ◌∙◌, subst, arith}
use Rattle.std.specs.Prelude.{codes}
use Rattle.std.specs.Result.{OkIff}
use Rattle.std.specs.Str.{bytes_eq, IsUtf8}
use Rattle.std.specs.Str.Parse.{digits_value, IsNumeral, AllDigits, ParsesUnsigned, without_leading_plus}
use Rattle.std.specs.Fmt.{decimal}
use Rattle.std.specs.Cmp.Lexicographic.{same_text, other_text}
use Rattle.std.proofs.lemmas.Bool.{cases_eq}
use Rattle.std.proofs.lemmas.Str.{IsUtf8-from_ascii}
use Rattle.std.proofs.lemmas.Str.Parse.{IsNumeralModel, numerals_by_value, tells_digits, parse_plain}
use Rattle.std.proofs.lemmas.Fmt.{decimal_is_IsNumeral, decimal_digit, first_decimal, decimal_nonempty, IsAscii-decimal, decimal-digits_value}
use Rattle.journal_reader.specs.Fields.{long_of}
use Rattle.journal_reader.proofs.KeyFields.{long_digits}

own : IsNumeralModel (AllDigits 10) (digits_value 10)
own = numerals_by_value (AllDigits 10) tells_digits

none_by : (text : List ℕ) (o : Option ℕ) → long_of text ≡ o → ((n : ℕ) → n < 2 ^ 64 → decimal n ≡ text → ⊥) → o ≡ None
none_by text None e none = refl
none_by text (Some n) e none = let w = long_digits.written text n e in absurd (none n w.1 w.0)

-- a text that no number is written as
no_long : (text : List ℕ) → ((n : ℕ) → n < 2 ^ 64 → decimal n ≡ text → ⊥) → None ≡ long_of text
no_long text none = sym (none_by text (long_of text) refl none)

some_long : (text : List ℕ) (n : ℕ) → n < 2 ^ 64 → decimal n ≡ text → Some n ≡ long_of text
some_long text n fits e = sym (long_digits.again n fits) ∙ ap long_of e

zero_text : decimal 0 ≡ codes "0"
zero_text = decimal_digit 0 (omega arith)

pub is_zero : (text : List ℕ) → bytes_eq text (codes "0") ≡ true → Some 0 ≡ long_of text
is_zero text e = some_long text 0 (omega arith) (zero_text ∙ sym (same_text text (codes "0") (sym e)))

pub no_text : (text : List ℕ) → length text ≡ 0 → None ≡ long_of text
no_text text h = no_long text (λ n fits e. let some : 0 < length text = subst (λ t. 0 < length t) e (decimal_nonempty n fits) in omega (arith, some, h))

pub low_first : (text : List ℕ) → bytes_eq text (codes "0") ≡ false → get_or text 0 0 < 49 → None ≡ long_of text
low_first text other h =
    no_long text (λ n fits e.
    elim (cases_eq n 0) [
      | inl zero ↦ absurd (other_text text (codes "0") (sym other) (sym e ∙ ap decimal zero ∙ zero_text))
      | inr some ↦ let high : 48 < get_or text 0 0 = subst (λ t. 48 < get_or t 0 0) e (first_decimal n (omega arith) fits) in omega (arith, high, h)
    ])

pub no_utf8 : (text : List ℕ) → (IsUtf8 text → ⊥) → None ≡ long_of text
no_utf8 text bad = no_long text (λ n fits e. bad (subst IsUtf8 e (IsUtf8-from_ascii _ (IsAscii-decimal n fits))))

-- the text is a number of 64 bits, as `parse` reads it
abbrev IsParsed : List ℕ → Type 0
IsParsed text = IsNumeral 10 (without_leading_plus text) × (digits_value 10 (without_leading_plus text) < 2 ^ 64)

-- what `parse` says of a text that begins with a digit
plain : (text : List ℕ) (r : Result ℕ (Unit {0})) → 48 < get_or text 0 0 → ParsesUnsigned 64 10 text r → OkIff r (AllDigits 10 text × (0 < length text) × (digits_value 10 text < 2 ^ 64)) (digits_value 10 text)
plain text r first parsed = parse_plain own 64 text r parsed (λ e. omega arith)

pub no_number : (text : List ℕ) → 48 < get_or text 0 0 → ¬ IsParsed text → None ≡ long_of text
no_number text first not_parsed =
    no_long text (λ n fits e.
    let numeral = (decimal_is_IsNumeral n fits).0 in
    let value : digits_value 10 text ≡ n = ap (digits_value 10) (sym e) ∙ (decimal_is_IsNumeral n fits).1 in
    plain text (Err tt) first not_parsed (
      subst (AllDigits 10) e numeral.1,
      subst (λ t. 0 < length t) e numeral.0,
      omega (arith, value, fits),
    ))

pub a_number : (text : List ℕ) (v : ℕ) → 48 < get_or text 0 0 → IsParsed text × (v ≡ digits_value 10 (without_leading_plus text)) → Some v ≡ long_of text
a_number text v first parsed =
    let told = plain text (Ok v) first parsed in
    let value : v ≡ digits_value 10 text = told.1 in
    let fits : digits_value 10 text < 2 ^ 64 = told.0.2 in
    let digits = decimal-digits_value own text told.0.0 told.0.1 (λ e. absurd (omega (arith, first, e))) fits in
    some_long text v (omega (arith, value, fits)) (ap decimal value ∙ digits)
