-- Numbers in decimal digits: what `parse` tells of a text of 1 to 20 digits. Crates above that read
-- numbers of the same form cite it.
use Rattle.std.proofs.Common.{◌≡◌, ℕ, ◌+◌, ◌<◌, ◌≤◌, ◌^◌, true, cond, List, [], ◌∷◌, length, get_or, Result, Ok, Err, refl, sym, ap, ◌∙◌, arith}
use Rattle.std.specs.List.{list_all}
use Rattle.std.specs.Result.{OkIff}
use Rattle.std.specs.Str.{IsUtf8}
use Rattle.std.specs.Str.Parse.{digits_value, AllDigits, ParsesUnsigned}
use Rattle.std.specs.Char.{digit_value}
use Rattle.std.proofs.lemmas.Bool.{and_parts, and_from, lt-ltb, le-leb, ltb-true, leb-true, cond_both}
use Rattle.std.proofs.lemmas.Fmt.{IsAscii-from_digits}
use Rattle.std.proofs.lemmas.Str.{IsUtf8-from_ascii, digit_value_digit}
use Rattle.std.proofs.lemmas.Str.Parse.{IsNumeralModel, numerals_by_value, tells_digits, parse_plain}
use Rattle.script_lang.specs.declared.fault.Cause.TheVariants.{BadNumber}
use Rattle.script_lang.specs.Values.{is_digit, is_number, number}

-- `parse` reads decimal digits by their values
pub own : IsNumeralModel (AllDigits 10) (digits_value 10)
own = numerals_by_value (AllDigits 10) tells_digits

-- the value of a digit is below ten
pub digit_below : (b : ℕ) → is_digit b ≡ true → digit_value b < 10
digit_below b t =
    let parts = and_parts _ _ t in
    let low : 48 ≤ b = leb-true _ _ parts.0 in
    let high : b ≤ 57 = leb-true _ _ parts.1 in
    let value : digit_value b + 48 ≡ b = digit_value_digit b (low, high) in
    omega (arith, value)

-- bytes that are digits are decimal digits to `parse`
pub all_digits : (text : List ℕ) → list_all is_digit text ≡ true → AllDigits 10 text
all_digits [] t = tt
all_digits (b ∷ text) t = let parts = and_parts _ _ t in (digit_below b parts.0, all_digits text parts.1)

-- what the tests before `parse` tell
pub record IsChecked (text : List ℕ) : Type 0 where
  pub size : length text ≤ 20
  pub digits : list_all is_digit text ≡ true

-- digits are text
pub no_text : (text : List ℕ) → IsChecked text → (IsUtf8 text → ⊥) → Err BadNumber ≡ number text
no_text text ok bad = absurd (bad (IsUtf8-from_ascii text (IsAscii-from_digits text (all_digits text ok.digits))))

-- a text of digits begins with no sign
pub no_plus : (text : List ℕ) → list_all is_digit text ≡ true → get_or text 0 0 ≡ 43 → ⊥
no_plus [] t plus = absurd (omega (arith, plus))
no_plus (b ∷ text) t plus =
    let low : 48 ≤ b = leb-true _ _ (and_parts _ _ (and_parts _ _ t).0).0 in
    let is : b ≡ 43 = plus in
    absurd (omega (arith, low, is))

-- `parse` gives the value of 1 to 20 digits, where it is below 2 ^ 64
pub plain : (text : List ℕ) (r : Result ℕ (Unit {0})) → IsChecked text → ParsesUnsigned 64 10 text r
    → OkIff r (AllDigits 10 text × (0 < length text) × (digits_value 10 text < 2 ^ 64)) (digits_value 10 text)
plain text r ok parsed = parse_plain own 64 text r parsed (λ e. no_plus text ok.digits e)

pub a_number : (text : List ℕ) (n : ℕ) → IsChecked text → ParsesUnsigned {E = Unit {0}} 64 10 text (Ok n) → Ok n ≡ number text
a_number text n ok parsed =
    let told = plain text (Ok n) ok parsed in
    let test : is_number text ≡ true =
    and_from _ _ (and_from _ _ (and_from _ _ (lt-ltb _ _ told.0.1) (le-leb _ _ ok.size)) ok.digits) (lt-ltb _ _ told.0.2) in
    ap Ok told.1 ∙ ap (λ t. cond t (Ok (digits_value 10 text)) (Err BadNumber)) (sym test)

pub no_number : (text : List ℕ) → IsChecked text → ParsesUnsigned {E = Unit {0}} 64 10 text (Err tt) → Err BadNumber ≡ number text
no_number text ok refused =
    cond_both (is_number text) (Ok (digits_value 10 text)) (Err BadNumber) (λ r. Err BadNumber ≡ r)
    (λ t. let parts = and_parts _ _ t in let more = and_parts _ _ (and_parts _ _ parts.0).0 in
    absurd (plain text (Err tt) ok refused (all_digits text ok.digits, ltb-true _ _ more.0, ltb-true _ _ parts.1)))
    (λ _. refl)
