-- Fields and lines that are written can be read back.
use Rattle.std.proofs.Common.{◌≡◌, ◌≢◌, ℕ, zero, suc, ◌+◌, ◌-◌, ◌/◌, ◌%◌, ◌<◌, ◌≤◌, ◌^◌, true, false, cond, ◌&&◌, ◌||◌, nat_le, nat_lt, List, [], ◌∷◌, ◌++◌, filter, length, take, get_or, Ok, refl, sym, ap, ◌∙◌, arith, ◌==◌, append_assoc, length-append, inl, inr}
use Rattle.std.specs.Prelude.{All, slice_index}
use Rattle.std.specs.List.{slice_split, join_with_byte, list_all}
use Rattle.std.specs.Fmt.{decimal}
use Rattle.std.specs.Str.{IsUtf8, IsAscii}
use Rattle.std.specs.Str.Parse.{AllDigits, digits_value}
use Rattle.std.proofs.lemmas.Bool.{ne_eqb, le-leb, leb-true, lt-ltb, and_from, and_parts, agree_below_at, cases_lt, ltb-true}
use Rattle.std.proofs.lemmas.List.Elements.{All-nil, All-cons, All-append, All-weaker}
use Rattle.std.proofs.lemmas.List.{get_or-append-add, get_or_past}
use Rattle.std.proofs.lemmas.List.Splits.{slice_split_at, slice_split_none}
use Rattle.std.proofs.lemmas.Str.{IsUtf8-append, IsUtf8-from_ascii}
use Rattle.std.proofs.lemmas.Str.Parse.{digit_from_value}
use Rattle.std.proofs.lemmas.Fmt.{decimal_is_IsNumeral, length-decimal-le}
use Rattle.hex.specs.Hex.{IsBytes, encode_lower, encode_with, lower_digits}
use Rattle.hex.proofs.HexLemmas.{decode_sized-encode_lower}
use Rattle.script_lang.specs.declared.fault.Cause.TheVariants.{BadNumber, BadDigest}
use Rattle.script_lang.specs.Layout.{is_blank, is_some_text, line_fields, lines_of, without_return}
use Rattle.script_lang.specs.Outcomes.{or_cause, ok_if}
use Rattle.script_lang.specs.Proper.{IsDigest}
use Rattle.script_lang.specs.Spelling.{IsPart, IsWritten, key, line}
use Rattle.script_lang.specs.Values as value
use Rattle.script_lang.proofs.AllBytes.{bytes_from_all}
use Rattle.script_lang.proofs.Whole.{after_feed}

-- ---- clean fields

pub record IsClean (field : List ℕ) : Type 0 where
  pub some : 0 < length field
  pub parts : All IsPart field
  pub text : IsUtf8 field
  pub last : slice_index field (length field - 1) ≢ 13

-- a visible character of ASCII
pub record IsVisible (byte : ℕ) : Type 0 where
  pub above : 33 ≤ byte
  pub below : byte ≤ 126

-- fields, of which there is one at least, and of which the last keeps its end
abbrev pub AreClean : List (List ℕ) → Type 0
AreClean [] = ⊥
AreClean (field ∷ []) = IsClean field
AreClean (field ∷ next ∷ fields) = IsClean field × AreClean (next ∷ fields)

part_of_visible : (b : ℕ) → IsVisible b → IsPart b
part_of_visible b v =
    let above = v.above in
    record {
      field = ap (λ t. t || (b == 9)) (ne_eqb b 32 (λ e. omega arith)) ∙ ne_eqb b 9 (λ e. omega arith);
      line = λ e. omega arith;
    }

last_by : (field : List ℕ) → 0 < length field → All IsVisible field → slice_index field (length field - 1) ≢ 13
last_by field some all = λ e. let v = (all (length field - 1) 0 (omega arith)).above in omega (arith, v, e)

ascii : (field : List ℕ) → All IsVisible field → IsAscii field
ascii field all = λ i. elim (cases_lt i (length field)) [
  | inl below ↦ let high = (all i 0 below).below in omega (arith, high)
  | inr past ↦ let none : get_or field i 0 ≡ 0 = get_or_past field i 0 past in omega (arith, none)
]

visible_is_clean : (field : List ℕ) → 0 < length field → All IsVisible field → IsClean field
visible_is_clean field some all = record {
  some = some;
  parts = All-weaker IsVisible IsPart part_of_visible field all;
  text = IsUtf8-from_ascii field (ascii field all);
  last = last_by field some all;
}

pub value_is_clean : (bytes : List ℕ) → IsWritten bytes → IsClean bytes
value_is_clean bytes w = record { some = w.some; parts = w.parts; text = w.text; last = w.last }

-- ---- words, numbers and keys

visible : (text : List ℕ) → list_all (λ b. nat_le 33 b && nat_le b 126) text ≡ true → All IsVisible text
visible [] e = All-nil IsVisible
visible (b ∷ bs) e =
    let parts = and_parts _ _ e in
    let range = and_parts _ _ parts.0 in
    All-cons IsVisible b bs (record { above = leb-true _ _ range.0; below = leb-true _ _ range.1 }) (visible bs parts.1)

pub word_is_clean : (text : List ℕ) → nat_lt 0 (length text) ≡ true → list_all (λ b. nat_le 33 b && nat_le b 126) text ≡ true → IsClean text
word_is_clean text some e = visible_is_clean text (ltb-true _ _ some) (visible text e)

digits_visible : (ds : List ℕ) → AllDigits 10 ds → All IsVisible ds
digits_visible [] h = All-nil IsVisible
digits_visible (d ∷ ds) h =
    let range = digit_from_value d h.0 in
    All-cons IsVisible d ds (record { above = omega (arith, range.0); below = omega (arith, range.1) }) (digits_visible ds h.1)

pub number_is_clean : (n : ℕ) → n < 2 ^ 64 → IsClean (decimal n)
number_is_clean n fits = let d = decimal_is_IsNumeral n fits in visible_is_clean (decimal n) d.0.0 (digits_visible (decimal n) d.0.1)

are_digits : (ds : List ℕ) → AllDigits 10 ds → list_all value.is_digit ds ≡ true
are_digits [] h = refl
are_digits (d ∷ ds) h = let range = digit_from_value d h.0 in and_from _ _ (and_from _ _ (le-leb _ _ range.0) (le-leb _ _ range.1)) (are_digits ds h.1)

pub number_back : (n : ℕ) → n < 2 ^ 64 → value.number (decimal n) ≡ Ok n
number_back n fits =
    let d = decimal_is_IsNumeral n fits in
    let wide : n < 10 ^ 20 = omega (arith, fits) in
    let short : length (decimal n) ≤ 20 = length-decimal-le 20 n (omega arith) wide fits in
    let same : digits_value 10 (decimal n) ≡ n = d.1 in
    let test : value.is_number (decimal n) ≡ true =
    and_from _ _ (and_from _ _ (and_from _ _ (lt-ltb _ _ d.0.0) (le-leb _ _ short)) (are_digits (decimal n) d.0.1))
    (ap (λ (v : ℕ). nat_lt v (2 ^ 64)) same ∙ lt-ltb _ _ fits) in
    ap (λ t. ok_if t (digits_value 10 (decimal n)) BadNumber) test ∙ ap Ok same

visible_digit : (d : ℕ) → d < 16 → IsVisible (slice_index lower_digits d)
visible_digit d low =
    let parts = and_parts _ _ (agree_below_at (λ k. nat_le 33 (slice_index lower_digits k) && nat_le (slice_index lower_digits k) 126) (λ _. true) 16 d refl low) in
    record { above = leb-true _ _ parts.0; below = leb-true _ _ parts.1 }

hex_visible : (bytes : List ℕ) → IsBytes bytes → All IsVisible (encode_with lower_digits bytes)
unfolding encode_with
hex_visible [] h = All-nil IsVisible
hex_visible (b ∷ bytes) h =
    let fits : b < 256 = h 0 in
    let high : b / 16 < 16 = omega arith in
    let low : b % 16 < 16 = omega arith in
    let first = slice_index lower_digits (b / 16) in
    let second = slice_index lower_digits (b % 16) in
    let rest = encode_with lower_digits bytes in
    All-cons IsVisible first (second ∷ rest) (visible_digit (b / 16) high)
    (All-cons IsVisible second rest (visible_digit (b % 16) low) (hex_visible bytes (λ k. h (suc k))))

pub key_is_clean : (digest : List ℕ) → IsDigest digest → IsClean (key digest)
key_is_clean digest d =
    visible_is_clean (key digest) (omega arith) (All-cons IsVisible 35 (encode_lower digest) (record { above = omega arith; below = omega arith }) (hex_visible digest (bytes_from_all digest d.each)))

pub key_back : (digest : List ℕ) → IsDigest digest → value.digest (key digest) ≡ Ok digest
key_back digest d = ap (or_cause BadDigest) (decode_sized-encode_lower digest 20 d.size (bytes_from_all digest d.each))

-- ---- fields of a line

no_blank : (field : List ℕ) → IsClean field → All (λ b. is_blank b ≡ false) field
no_blank field c = All-weaker IsPart (λ b. is_blank b ≡ false) (λ b p. p.field) field c.parts

no_feed : (field : List ℕ) → IsClean field → All (λ b. (b == 10) ≡ false) field
no_feed field c = All-weaker IsPart (λ b. (b == 10) ≡ false) (λ b p. ne_eqb b 10 p.line) field c.parts

kept : (field : List ℕ) (fields : List (List ℕ)) → IsClean field → filter is_some_text (field ∷ fields) ≡ field ∷ filter is_some_text fields
kept field fields c = ap (λ t. cond t (field ∷ filter is_some_text fields) (filter is_some_text fields)) (lt-ltb _ _ c.some)

pub fields_back : (fields : List (List ℕ)) → AreClean fields → line_fields (join_with_byte 32 fields) ≡ fields
fields_back [] clean = absurd clean
fields_back (field ∷ []) clean = ap (filter is_some_text) (slice_split_none is_blank field (no_blank field clean)) ∙ kept field [] clean
fields_back (field ∷ next ∷ fields) clean =
    ap (filter is_some_text) (slice_split_at is_blank field 32 (join_with_byte 32 (next ∷ fields)) (no_blank field clean.0) refl)
    ∙ kept field (slice_split is_blank (join_with_byte 32 (next ∷ fields))) clean.0
    ∙ ap (λ fs. field ∷ fs) (fields_back (next ∷ fields) clean.1)

feed_free : (fields : List (List ℕ)) → AreClean fields → All (λ b. (b == 10) ≡ false) (join_with_byte 32 fields)
feed_free [] clean = absurd clean
feed_free (field ∷ []) clean = no_feed field clean
feed_free (field ∷ next ∷ fields) clean =
    All-append (λ b. (b == 10) ≡ false) field (32 ∷ join_with_byte 32 (next ∷ fields)) (no_feed field clean.0)
    (All-cons (λ b. (b == 10) ≡ false) 32 (join_with_byte 32 (next ∷ fields)) refl (feed_free (next ∷ fields) clean.1))

space_ascii : (i : ℕ) → slice_index (32 ∷ []) i < 128
space_ascii zero = omega arith
space_ascii (suc i) = omega arith

space_text : IsUtf8 (32 ∷ [])
space_text = IsUtf8-from_ascii (32 ∷ []) space_ascii

pub joined_text : (fields : List (List ℕ)) → AreClean fields → IsUtf8 (join_with_byte 32 fields)
joined_text [] clean = absurd clean
joined_text (field ∷ []) clean = clean.text
joined_text (field ∷ next ∷ fields) clean =
    let rest = join_with_byte 32 (next ∷ fields) in
    IsUtf8-append field (32 ∷ rest) clean.0.text (IsUtf8-append (32 ∷ []) rest space_text (joined_text (next ∷ fields) clean.1))

record Ends (text : List ℕ) : Type 0 where
  some : 0 < length text
  last : slice_index text (length text - 1) ≢ 13

ends : (fields : List (List ℕ)) → AreClean fields → Ends (join_with_byte 32 fields)
ends [] clean = absurd clean
ends (field ∷ []) clean = record { some = clean.some; last = clean.last }
ends (field ∷ next ∷ fields) clean =
    let r = ends (next ∷ fields) clean.1 in
    let rest = join_with_byte 32 (next ∷ fields) in
    let more = r.some in
    let size : length (field ++ 32 ∷ rest) ≡ length field + suc (length rest) = length-append field (32 ∷ rest) in
    let place : length (field ++ 32 ∷ rest) - 1 ≡ length field + suc (length rest - 1) = omega (arith, size, more) in
    record {
      some = omega (arith, size);
      last = λ e. r.last (sym (ap (λ i. get_or (field ++ 32 ∷ rest) i 0) place ∙ get_or-append-add field (32 ∷ rest) (suc (length rest - 1)) 0) ∙ e);
    }

no_return : (text : List ℕ) → Ends text → without_return text ≡ text
no_return text e = ap (λ t. cond t (take (length text - 1) text) text) (ne_eqb _ _ e.last)

pub line_back : (fields : List (List ℕ)) (rest : List ℕ) → AreClean fields → lines_of (line fields ++ rest) ≡ join_with_byte 32 fields ∷ lines_of rest
line_back fields rest clean =
    ap lines_of (append_assoc (join_with_byte 32 fields) (10 ∷ []) rest)
    ∙ after_feed (join_with_byte 32 fields) rest (slice_split_at (λ b. b == 10) (join_with_byte 32 fields) 10 rest (feed_free fields clean) refl)
    ∙ ap (λ x. x ∷ lines_of rest) (no_return (join_with_byte 32 fields) (ends fields clean))
