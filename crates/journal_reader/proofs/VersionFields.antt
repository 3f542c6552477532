-- Versions.
use Rattle.std.proofs.Common.{◌≡◌, ℕ, ◌<◌, ◌^◌, ◌⊎◌, inl, inr, ◌==◌, false, cond, List, [], ◌∷◌, ◌++◌, get_or, Option, Some, None, refl, sym, ap, ◌∙◌, subst, arith, append_assoc}
use Rattle.std.specs.Prelude.{All, codes, length}
use Rattle.std.specs.List.{join_with_byte}
use Rattle.std.specs.Str.{bytes_eq}
use Rattle.std.specs.Fmt.{decimal}
use Rattle.std.specs.Option.{option_map, option_or, option_and_then}
use Rattle.std.specs.Cmp.Lexicographic.{same_text}
use Rattle.std.proofs.lemmas.Bool.{false_from_ne_true, ne_eqb}
use Rattle.std.proofs.lemmas.List.Elements.{All-nil, All-cons, All-head, All-append, All-weaker}
use Rattle.std.proofs.lemmas.List.Splits.{slice_split_none}
use Rattle.std.proofs.lemmas.Fmt.{decimal_nonempty}
use Rattle.std.proofs.lemmas.Option.{none-some, same_Some}
use Rattle.hex.specs.Hex.{encode_lower}
use Rattle.conflict_order.specs.declared.version.Version.{Version}
use Rattle.conflict_order.specs.declared.version.Body.{Body}
use Rattle.conflict_order.specs.declared.version.Body.TheVariants as body
use Rattle.wire_messages.specs.Numbers.{IsNumber}
use Rattle.wire_messages.specs.Versions.{IsValue, IsBody, IsVersion, IsOptionVersion}
use Rattle.journal_reader.specs.Fields.{Reader, parts_of, first_field, with_field, at_end, long_of, number_of, nothing_of, parsed_value, tombstone_of, written_value_of, stamp_of, parsed_version, optional_of}
use Rattle.journal_text.specs.Values.{body_text, version_text, optional_text}
use Rattle.journal_reader.proofs.Readers.{Reads, Back, Only, ended_back, field_back, ended_only, field_only, reads_all, reads_wider, reads_parts, reads_same, map_some}
use Rattle.journal_reader.proofs.NumberFields.{IsDigit, other_than_digit, decimal_is_clean}
use Rattle.journal_reader.proofs.KeyFields.{IsVisible, long_digits, number_digits}
use Rattle.journal_reader.proofs.ByteFields.{IsHexDigit, value_digits, word_case, word_clean}

abbrev Stamp : Type 0
Stamp = ℕ × Body

-- a byte that may stand in a field, and no dot
pub record IsNoDot (b : ℕ) : Type 0 where
  pub above : 32 < b
  pub other : b ≡ 46 → ⊥

no_dot_digit : (b : ℕ) → IsDigit b → IsNoDot b
no_dot_digit b d = let low = d.low in record { above = omega arith; other = λ e. omega arith }

no_dot_hex : (b : ℕ) → IsHexDigit b → IsNoDot b
no_dot_hex b d = let low = d.low in record { above = omega arith; other = λ e. omega arith }

hex_of_digit : (b : ℕ) → IsDigit b → IsHexDigit b
hex_of_digit b d = let low = d.low in let high = d.high in record { low = low; other = λ e. omega arith }

no_dot_visible : (b : ℕ) → IsNoDot b → IsVisible b
no_dot_visible b d = record { above = d.above }

-- ---- an empty field

nothing_again : (xs : List ℕ) → xs ≡ [] → nothing_of xs ≡ Some xs
nothing_again [] e = refl
nothing_again (x ∷ xs) e = absurd cc

nothing_written : (text xs : List ℕ) → nothing_of text ≡ Some xs → (xs ≡ text) × (xs ≡ [])
nothing_written [] xs e = let s = same_Some [] xs e in (sym s, sym s)
nothing_written (b ∷ bytes) xs e = absurd (none-some xs e)

pub nothing_field : (P : ℕ → Type 0) → Reads P (λ xs. xs ≡ []) (λ xs. xs) nothing_of
nothing_field P = record {
  again = nothing_again;
  written = nothing_written;
  clean = λ xs e. subst (All P) (sym e) (All-nil P);
}

-- ---- a generation and a value

abbrev value_digits_of : Body → List ℕ
value_digits_of body.Tombstone = []
value_digits_of (body.Value bytes) = encode_lower bytes

abbrev IsSomeValue : Body → Type 0
IsSomeValue body.Tombstone = ⊥
IsSomeValue (body.Value bytes) = IsValue bytes

abbrev IsValueStamp : Stamp → Type 0
IsValueStamp s = IsNumber s.0 × IsSomeValue s.1

abbrev value_parts : Stamp → List (List ℕ)
value_parts s = decimal s.0 ∷ value_digits_of s.1 ∷ []

abbrev value_in : Reader Stamp
value_in = with_field number_of (λ generation. with_field parsed_value (λ bytes. at_end (generation, body.Value bytes)))

number_hex : Reads IsHexDigit IsNumber decimal number_of
number_hex = reads_wider hex_of_digit number_digits

value_back_at : (g : ℕ) (b : Body) → IsNumber g → IsSomeValue b → Back IsHexDigit value_in (value_parts (g, b)) (g, b)
value_back_at g body.Tombstone n v = absurd v
value_back_at g (body.Value bytes) n v = field_back _ number_hex g n (field_back _ value_digits bytes v (ended_back IsHexDigit (g, body.Value bytes)))

value_only : Only value_in (λ fields s. (value_parts s ≡ fields) × IsValueStamp s)
value_only = field_only number_hex (λ g n. field_only value_digits (λ bytes v. ended_only _ (refl, (n, v))))

no_equals : (b : ℕ) → IsHexDigit b → (b == 61) ≡ false
no_equals b h = ne_eqb b 61 h.other

value_stamp : Reads IsNoDot IsValueStamp (λ s. join_with_byte 61 (value_parts s)) (λ text. value_in (parts_of 61 text))
value_stamp = reads_parts 61 no_equals no_dot_hex (record { above = omega arith; other = λ e. omega arith }) (λ s g. tt)
    (reads_all (λ s g. value_back_at s.0 s.1 g.0 g.1) value_only)

value_read : (text : List ℕ) → written_value_of text ≡ value_in (parts_of 61 text)
unfolding written_value_of
value_read text = refl

-- ---- a generation and a tombstone

abbrev IsTombstone : Stamp → Type 0
IsTombstone s = IsNumber s.0 × (s.1 ≡ body.Tombstone)

abbrev tombstone_parts : Stamp → List (List ℕ)
tombstone_parts s = decimal s.0 ∷ [] ∷ []

abbrev tombstone_in : Reader Stamp
tombstone_in = with_field number_of (λ generation. with_field nothing_of (λ rest. at_end (generation, body.Tombstone)))

tombstone_back : (s : Stamp) → IsTombstone s → Back IsDigit tombstone_in (tombstone_parts s) s
tombstone_back s g =
    let same : (s.0, body.Tombstone) ≡ s = (λ i. (s.0, sym g.1 i)) in
    subst (λ (t : Stamp). Back IsDigit tombstone_in (tombstone_parts s) t) same
    (field_back _ number_digits s.0 g.0 (field_back _ (nothing_field IsDigit) [] refl (ended_back IsDigit (s.0, body.Tombstone))))

tombstone_only : Only tombstone_in (λ fields s. (tombstone_parts s ≡ fields) × IsTombstone s)
tombstone_only = field_only number_digits (λ g n. field_only (nothing_field IsDigit) (λ xs e. ended_only _ (ap (λ ys. decimal g ∷ ys ∷ []) (sym e), (n, refl))))

tombstone_stamp : Reads IsNoDot IsTombstone (λ s. join_with_byte 45 (tombstone_parts s)) (λ text. tombstone_in (parts_of 45 text))
tombstone_stamp = reads_parts 45 (other_than_digit 45 (omega arith)) no_dot_digit (record { above = omega arith; other = λ e. omega arith }) (λ s g. tt)
    (reads_all tombstone_back tombstone_only)

tombstone_read : (text : List ℕ) → tombstone_of text ≡ tombstone_in (parts_of 45 text)
unfolding tombstone_of
tombstone_read text = refl

-- ---- both

abbrev stamp_text : Stamp → List ℕ
stamp_text s = decimal s.0 ++ body_text s.1

abbrev IsStamp : Stamp → Type 0
IsStamp s = IsNumber s.0 × IsBody s.1

nothing_then : {A B : Type 0} (next : A × List (List ℕ) → Option B) → ((x : A) → next (x, []) ≡ None) → (o : Option A) → option_and_then next (option_map (λ x. (x, [])) o) ≡ None
nothing_then next none None = refl
nothing_then next none (Some n) = none n

-- with one part there is no second field
one_part : (text : List ℕ) → value_in (text ∷ []) ≡ None
unfolding with_field first_field
one_part text = nothing_then (λ x. with_field parsed_value (λ bytes. at_end (x.0, body.Value bytes)) x.1) (λ n. refl) (number_of text)

no_value : (g : ℕ) → IsNumber g → written_value_of (join_with_byte 45 (decimal g ∷ [] ∷ [])) ≡ None
no_value g n =
    let fits = n.fits in
    let text = decimal g ++ 45 ∷ [] in
    let digits : All (λ b. (b == 61) ≡ false) (decimal g) = All-weaker IsDigit (λ b. (b == 61) ≡ false) (λ b d. let high = d.high in ne_eqb b 61 (λ e. omega arith)) (decimal g) (decimal_is_clean g (omega arith)) in
    let free : All (λ b. (b == 61) ≡ false) text = All-append (λ b. (b == 61) ≡ false) (decimal g) (45 ∷ []) digits (All-cons (λ b. (b == 61) ≡ false) 45 [] refl (All-nil (λ b. (b == 61) ≡ false))) in
    value_read text ∙ ap value_in (slice_split_none (λ b. b == 61) text free) ∙ one_part text

stamp_again_at : (g : ℕ) (b : Body) → IsNumber g → IsBody b → stamp_of (stamp_text (g, b)) ≡ Some (g, b)
unfolding stamp_of
stamp_again_at g body.Tombstone n v =
    let text = join_with_byte 45 (decimal g ∷ [] ∷ []) in
    ap (λ o. option_or o (tombstone_of text)) (no_value g n) ∙ tombstone_read text ∙ tombstone_stamp.again (g, body.Tombstone) (n, refl)
stamp_again_at g (body.Value bytes) n v =
    let text = join_with_byte 61 (decimal g ∷ encode_lower bytes ∷ []) in
    ap (λ o. option_or o (tombstone_of text)) (value_read text ∙ value_stamp.again (g, body.Value bytes) (n, v))

or_some : {A : Type 0} (o p : Option A) (y : A) → option_or o p ≡ Some y → (o ≡ Some y) ⊎ (p ≡ Some y)
or_some None p y e = inr e
or_some (Some x) p y e = inl e

value_stamp_is : (g : ℕ) (b : Body) (text : List ℕ) → join_with_byte 61 (value_parts (g, b)) ≡ text → IsValueStamp (g, b) → (stamp_text (g, b) ≡ text) × IsStamp (g, b)
value_stamp_is g body.Tombstone text e i = absurd i.1
value_stamp_is g (body.Value bytes) text e i = (e, i)

tombstone_is : (g : ℕ) (b : Body) (text : List ℕ) → join_with_byte 45 (tombstone_parts (g, b)) ≡ text → IsTombstone (g, b) → (stamp_text (g, b) ≡ text) × IsStamp (g, b)
tombstone_is g body.Tombstone text e i = (e, (i.0, tt))
tombstone_is g (body.Value bytes) text e i = let clash = i.1 in absurd cc

stamp_written : (text : List ℕ) (s : Stamp) → stamp_of text ≡ Some s → (stamp_text s ≡ text) × IsStamp s
unfolding stamp_of
stamp_written text s e =
    elim (or_some (written_value_of text) (tombstone_of text) s e) [
      | inl v ↦ let w = value_stamp.written text s (sym (value_read text) ∙ v) in value_stamp_is s.0 s.1 text w.0 w.1
      | inr t ↦ let w = tombstone_stamp.written text s (sym (tombstone_read text) ∙ t) in tombstone_is s.0 s.1 text w.0 w.1
    ]

stamp_clean : (g : ℕ) (b : Body) → IsNumber g → IsBody b → All IsNoDot (stamp_text (g, b))
stamp_clean g body.Tombstone n v = tombstone_stamp.clean (g, body.Tombstone) (n, refl)
stamp_clean g (body.Value bytes) n v = value_stamp.clean (g, body.Value bytes) (n, v)

stamp_field : Reads IsNoDot IsStamp stamp_text stamp_of
stamp_field = record {
  again = λ s g. stamp_again_at s.0 s.1 g.0 g.1;
  written = stamp_written;
  clean = λ s g. stamp_clean s.0 s.1 g.0 g.1;
}

-- ---- versions

abbrev version_parts : Version → List (List ℕ)
version_parts v = decimal v.lut ∷ stamp_text (v.generation, v.body) ∷ []

abbrev version_in : Reader Version
version_in = with_field long_of (λ time. with_field stamp_of (λ stamp. at_end (record { lut = time; generation = stamp.0; body = stamp.1 })))

long_no_dot : Reads IsNoDot (λ n. n < 2 ^ 64) decimal long_of
long_no_dot = reads_wider no_dot_digit long_digits

version_back : (v : Version) → IsVersion v → Back IsNoDot version_in (version_parts v) v
version_back v g =
    field_back _ long_no_dot v.lut g.lut
    (field_back _ stamp_field (v.generation, v.body) (record { positive = g.written; fits = g.generation }, g.body)
    (ended_back IsNoDot v))

version_only : Only version_in (λ fields v. (version_parts v ≡ fields) × IsVersion v)
version_only = field_only long_no_dot (λ t g. field_only stamp_field (λ s h. ended_only _ (refl, record { lut = g; written = h.0.positive; generation = h.0.fits; body = h.1 })))

version_join : (v : Version) → join_with_byte 46 (version_parts v) ≡ version_text v
version_join v =
    sym (append_assoc (decimal v.lut ++ codes ".") (decimal v.generation) (body_text v.body)
    ∙ append_assoc (decimal v.lut) (codes ".") (decimal v.generation ++ body_text v.body))

version_read : (text : List ℕ) → parsed_version text ≡ version_in (parts_of 46 text)
unfolding parsed_version
version_read text = refl

pub version_field : Reads IsVisible IsVersion version_text parsed_version
version_field = reads_same version_text parsed_version version_join version_read
    (reads_parts 46 (λ b d. ne_eqb b 46 d.other) no_dot_visible (record { above = omega arith }) (λ v g. tt) (reads_all version_back version_only))

-- ---- a version or none

digit_first : (digits rest word : List ℕ) → 0 < length digits → All IsDigit digits → 57 < get_or word 0 0 → digits ++ rest ≡ word → ⊥
digit_first [] rest word some clean letter e = absurd (omega (arith, some))
digit_first (d ∷ digits) rest word some clean letter e =
    let high = (All-head IsDigit d digits clean).high in
    let same : d ≡ get_or word 0 0 = ap (λ (t : List ℕ). get_or t 0 0) e in
    omega arith

-- what begins with a digit is no word
pub no_word : (n : ℕ) (rest word : List ℕ) → n < 2 ^ 64 → 57 < get_or word 0 0 → bytes_eq (decimal n ++ rest) word ≡ false
no_word n rest word small letter =
    false_from_ne_true _ (λ e. digit_first (decimal n) rest word (decimal_nonempty n small) (decimal_is_clean n small) letter (same_text _ _ (sym e)))

no_none : (v : Version) → IsVersion v → bytes_eq (version_text v) (codes "none") ≡ false
no_none v g =
    ap (λ t. bytes_eq t (codes "none")) (sym (version_join v))
    ∙ no_word v.lut (46 ∷ stamp_text (v.generation, v.body)) (codes "none") g.lut (omega arith)

optional_again : (v : Option Version) → IsOptionVersion v → optional_of (optional_text v) ≡ Some v
unfolding optional_of
optional_again None g = refl
optional_again (Some v) g =
    ap (λ t. cond t (Some None) (option_map Some (parsed_version (version_text v)))) (no_none v g)
    ∙ ap (option_map Some) (version_field.again v g)

optional_written : (text : List ℕ) (v : Option Version) → optional_of text ≡ Some v → (optional_text v ≡ text) × IsOptionVersion v
unfolding optional_of
optional_written text v e =
    word_case ((optional_text v ≡ text) × IsOptionVersion v) text (codes "none") (Some None) (option_map Some (parsed_version text)) v
    (λ s i. subst (λ (w : Option Version). (optional_text w ≡ text) × IsOptionVersion w) (same_Some None v i) (s, tt))
    (λ other. let m = map_some Some (parsed_version text) v other in
    subst (λ (w : Option Version). (optional_text w ≡ text) × IsOptionVersion w) m.2 (version_field.written text m.0 m.1)) e

optional_clean : (v : Option Version) → IsOptionVersion v → All IsVisible (optional_text v)
optional_clean None g = word_clean (codes "none") refl
optional_clean (Some v) g = version_field.clean v g

pub optional_field : Reads IsVisible IsOptionVersion optional_text optional_of
optional_field = record { again = optional_again; written = optional_written; clean = optional_clean }
