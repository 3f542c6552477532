-- Bytes in hexadecimal digits, and words.
use Rattle.std.proofs.Common.{◌≡◌, ℕ, zero, suc, ◌+◌, ◌*◌, ◌/◌, ◌%◌, ◌<◌, ◌≤◌, ◌==◌, Bool, true, false, cond, not, ◌&&◌, ◌||◌, nat_le, nat_lt, List, [], ◌∷◌, length, slice_index, Option, Some, None, unwrap_or, inl, inr, Result, Ok, Err, is_some, refl, sym, ap, ◌∙◌, subst, arith}
use Rattle.std.specs.Prelude.{All, codes}
use Rattle.std.specs.List.{list_any, list_all}
use Rattle.std.specs.Str.{bytes_eq}
use Rattle.std.specs.Option.{option_and_then}
use Rattle.std.specs.Result.{result_ok}
use Rattle.std.specs.Cmp.Lexicographic.{same_text}
use Rattle.std.proofs.lemmas.Bool.{and_parts, le-leb, leb-true, ltb-true, eqb-true, eqb-false, cases_lt, agree_below_at, or_parts, not-true}
use Rattle.std.proofs.lemmas.List.Elements.{All-nil, All-cons, All-head, All-tail, All-weaker}
use Rattle.std.proofs.lemmas.List.Folds.{list_any_none}
use Rattle.std.proofs.lemmas.Option.{cond_some, none-some, same_Some, option_and_then_some}
use Rattle.hex.specs.Hex.{IsBytes, decode_of, decode_pairs, decode_sized, digit_or_error, encode_lower, encode_with, hex_digit_value, lower_digits, pair_value, value_at, ◌>>=◌}
use Rattle.hex.specs.declared.error.FromHexError.{FromHexError}
use Rattle.hex.proofs.HexLemmas.{decode_of-encode_lower, decode_of-even, decode_of-ok, decode_sized-ok, decode_sized-twice, decode_sized-encode_lower}
use Rattle.conflict_order.specs.declared.policy.Policy.{Policy}
use Rattle.conflict_order.specs.declared.policy.Policy.TheVariants as policy
use Rattle.conflict_order.specs.declared.want.Action.{Action}
use Rattle.conflict_order.specs.declared.want.Action.TheVariants as action
use Rattle.cluster_types.specs.Texts.{digest_text}
use Rattle.wire_messages.specs.Versions.{AreBytes, IsDigest, IsValue}
use Rattle.journal_reader.specs.Fields.{is_capital, parsed_bytes, parsed_digest, parsed_value, parsed_policy, parsed_action, if_allowed}
use Rattle.journal_text.specs.Values.{policy_word, action_word}
use Rattle.journal_reader.proofs.Readers.{Reads, reads_wider}
use Rattle.journal_reader.proofs.KeyFields.{IsVisible}

-- a hexadecimal digit isn't below 48, and no equals sign
pub record IsHexDigit (b : ℕ) : Type 0 where
  pub low : 48 ≤ b
  pub other : b ≡ 61 → ⊥

pub hex_is_visible : (b : ℕ) → IsHexDigit b → IsVisible b
hex_is_visible b h = let low = h.low in record { above = omega arith }

abbrev is_lower : ℕ → Bool
is_lower d = nat_le 48 (slice_index lower_digits d) && not (slice_index lower_digits d == 61) && not (is_capital (slice_index lower_digits d))

record IsLower (b : ℕ) : Type 0 where
  digit : IsHexDigit b
  small : is_capital b ≡ false

lower_digit : (d : ℕ) → d < 16 → IsLower (slice_index lower_digits d)
lower_digit d low =
    let parts = and_parts _ _ (agree_below_at is_lower (λ _. true) 16 d refl low) in
    let both = and_parts _ _ parts.0 in
    record {
      digit = record { low = leb-true _ _ both.0; other = eqb-false _ _ (not-true _ both.1) };
      small = not-true _ parts.1;
    }

hex_is_lower : (bytes : List ℕ) → IsBytes bytes → All IsLower (encode_with lower_digits bytes)
unfolding encode_with
hex_is_lower [] h = All-nil IsLower
hex_is_lower (b ∷ bytes) h =
    let fits : b < 256 = h 0 in
    let high : b / 16 < 16 = omega arith in
    let low : b % 16 < 16 = omega arith in
    let first = slice_index lower_digits (b / 16) in
    let second = slice_index lower_digits (b % 16) in
    let rest = encode_with lower_digits bytes in
    All-cons IsLower first (second ∷ rest) (lower_digit (b / 16) high)
    (All-cons IsLower second rest (lower_digit (b % 16) low) (hex_is_lower bytes (λ k. h (suc k))))

bytes_are : (bytes : List ℕ) → AreBytes bytes → IsBytes bytes
bytes_are [] h i = omega arith
bytes_are (b ∷ bytes) h zero = All-head (λ x. x < 256) b bytes h
bytes_are (b ∷ bytes) h (suc i) = bytes_are bytes (All-tail (λ x. x < 256) b bytes h) i

are_bytes : (bytes : List ℕ) → IsBytes bytes → AreBytes bytes
are_bytes [] h = All-nil (λ x. x < 256)
are_bytes (b ∷ bytes) h = All-cons (λ x. x < 256) b bytes (h 0) (are_bytes bytes (λ i. h (suc i)))

no_capitals : (bytes : List ℕ) → AreBytes bytes → list_any is_capital (encode_lower bytes) ≡ false
no_capitals bytes h =
    list_any_none is_capital (encode_lower bytes) (All-weaker IsLower (λ b. is_capital b ≡ false) (λ b l. l.small) (encode_lower bytes) (hex_is_lower bytes (bytes_are bytes h)))

hex_clean : (bytes : List ℕ) → AreBytes bytes → All IsHexDigit (encode_lower bytes)
hex_clean bytes h = All-weaker IsLower IsHexDigit (λ b l. l.digit) (encode_lower bytes) (hex_is_lower bytes (bytes_are bytes h))

bytes_back : (bytes : List ℕ) → AreBytes bytes → parsed_bytes (encode_lower bytes) ≡ Some bytes
unfolding parsed_bytes
bytes_back bytes h = ap (λ t. cond t None (result_ok (decode_of (encode_lower bytes)))) (no_capitals bytes h) ∙ ap result_ok (decode_of-encode_lower bytes (bytes_are bytes h))

-- what is read from digits that aren't capitals is written by them

bind_ok : {A B : Type 0} (r : Result A FromHexError) (f : A → Result B FromHexError) (y : B) → (r >>= f) ≡ Ok y → (x : A) × (r ≡ Ok x) × (f x ≡ Ok y)
bind_ok (Ok x) f y e = (x, refl, e)
bind_ok (Err d) f y e = absurd cc

abbrev ok_of : {A : Type 0} → A → Result A FromHexError
ok_of x = Ok x

ok_is : {A : Type 0} (x y : A) → ok_of x ≡ ok_of y → x ≡ y
ok_is x y e = cc

digit_read : (c i : ℕ) (o : Option ℕ) (v : ℕ) → digit_or_error c i o ≡ Ok v → o ≡ Some v
digit_read c i (Some w) v h = ap Some (ok_is w v h)
digit_read c i None v h = absurd cc

abbrev same_test : Bool → Option ℕ → ℕ → Bool
same_test capital o c = capital || (not (is_some o) || (nat_le (unwrap_or o 0) 15 && (slice_index lower_digits (unwrap_or o 0) == c)))

high_digit : (c v : ℕ) → 103 ≤ c → hex_digit_value c ≡ Some v → ⊥
high_digit c v h e = grind (arith)

low_digit : (c v : ℕ) → c < 103 → is_capital c ≡ false → hex_digit_value c ≡ Some v → (v < 16) × (slice_index lower_digits v ≡ c)
low_digit c v low small e =
    let h : same_test (is_capital c) (hex_digit_value c) c ≡ true = agree_below_at (λ b. same_test (is_capital b) (hex_digit_value b) b) (λ _. true) 103 c refl low in
    let k : (nat_le v 15 && (slice_index lower_digits v == c)) ≡ true =
    ap (λ o. same_test false o c) (sym e) ∙ ap (λ t. same_test t (hex_digit_value c) c) (sym small) ∙ h in
    let parts = and_parts _ _ k in
    let le : v ≤ 15 = leb-true _ _ parts.0 in
    (omega arith, eqb-true _ _ parts.1)

same_digit : (c v : ℕ) → is_capital c ≡ false → hex_digit_value c ≡ Some v → (v < 16) × (slice_index lower_digits v ≡ c)
same_digit c v small e = elim (cases_lt c 103) [ inl low ↦ low_digit c v low small e | inr high ↦ absurd (high_digit c v high e) ]

two_digits : (h l a b : ℕ) → (h < 16) × (slice_index lower_digits h ≡ a) → (l < 16) × (slice_index lower_digits l ≡ b)
    → (slice_index lower_digits ((h * 16 + l) / 16) ≡ a) × (slice_index lower_digits ((h * 16 + l) % 16) ≡ b)
two_digits h l a b p q =
    let low = q.0 in
    let first : (h * 16 + l) / 16 ≡ h = omega arith in
    let second : (h * 16 + l) % 16 ≡ l = omega arith in
    (ap (slice_index lower_digits) first ∙ p.1, ap (slice_index lower_digits) second ∙ q.1)

pairs_written : (i : ℕ) (text bytes : List ℕ) → list_any is_capital text ≡ false → decode_pairs i text ≡ Ok bytes → encode_with lower_digits bytes ≡ text
unfolding decode_pairs encode_with
pairs_written i [] bytes small e = ap (encode_with lower_digits) (sym (ok_is [] bytes e))
pairs_written i (a ∷ []) bytes small e = absurd cc
pairs_written i (a ∷ b ∷ rest) bytes small e =
    let p0 = bind_ok (pair_value a b i) _ bytes e in
    let p1 = bind_ok (value_at a i) _ p0.0 p0.1 in
    let p2 = bind_ok (value_at b (i + 1)) _ p0.0 p1.2 in
    let p3 = bind_ok (decode_pairs (i + 2) rest) _ bytes p0.2 in
    let caps = or_parts _ _ small in
    let more = or_parts _ _ caps.1 in
    let digits = two_digits p1.0 p2.0 a b (same_digit a p1.0 caps.0 (digit_read a i (hex_digit_value a) p1.0 p1.1)) (same_digit b p2.0 more.0 (digit_read b (i + 1) (hex_digit_value b) p2.0 p2.1)) in
    let whole : (p1.0 * 16 + p2.0) ∷ p3.0 ≡ bytes = ap (λ x. x ∷ p3.0) (ok_is _ _ p2.2) ∙ ok_is _ _ p3.2 in
    ap (encode_with lower_digits) (sym whole)
    ∙ ap (λ x. x ∷ slice_index lower_digits ((p1.0 * 16 + p2.0) % 16) ∷ encode_with lower_digits p3.0) digits.0
    ∙ ap (λ x. a ∷ x ∷ encode_with lower_digits p3.0) digits.1
    ∙ ap (λ x. a ∷ b ∷ x) (pairs_written (i + 2) rest p3.0 more.1 p3.1)

cond_none : {A : Type 0} (t : Bool) (o : Option A) (y : A) → cond t None o ≡ Some y → (t ≡ false) × (o ≡ Some y)
cond_none true o y e = absurd (none-some y e)
cond_none false o y e = (refl, e)

ok_some : {A : Type 0} (r : Result A FromHexError) (y : A) → result_ok r ≡ Some y → r ≡ Ok y
ok_some (Ok x) y e = ap Ok (same_Some x y e)
ok_some (Err f) y e = absurd (none-some y e)

decoded : (text bytes : List ℕ) → list_any is_capital text ≡ false → decode_of text ≡ Ok bytes → (encode_lower bytes ≡ text) × AreBytes bytes
decoded text bytes small e =
    let ok = decode_of-ok text bytes e in
    (pairs_written 0 text bytes small (sym (decode_of-even text ok.0) ∙ e), are_bytes bytes ok.3)

bytes_written : (text bytes : List ℕ) → parsed_bytes text ≡ Some bytes → (encode_lower bytes ≡ text) × AreBytes bytes
unfolding parsed_bytes
bytes_written text bytes e =
    let c = cond_none (list_any is_capital text) (result_ok (decode_of text)) bytes e in
    decoded text bytes c.0 (ok_some (decode_of text) bytes c.1)

pub bytes_digits : Reads IsHexDigit AreBytes encode_lower parsed_bytes
bytes_digits = record { again = bytes_back; written = bytes_written; clean = hex_clean }

pub bytes_field : Reads IsVisible AreBytes encode_lower parsed_bytes
bytes_field = reads_wider hex_is_visible bytes_digits

-- ---- digests

digest_back : (digest : List ℕ) → IsDigest digest → parsed_digest (digest_text digest) ≡ Some digest
unfolding parsed_digest
digest_back digest d =
    ap (λ t. cond t None (result_ok (decode_sized (encode_lower digest) 20))) (no_capitals digest d.each)
    ∙ ap result_ok (decode_sized-encode_lower digest 20 d.size (bytes_are digest d.each))

digest_written : (text digest : List ℕ) → parsed_digest text ≡ Some digest → (digest_text digest ≡ text) × IsDigest digest
unfolding parsed_digest
digest_written text digest e =
    let c = cond_none (list_any is_capital text) (result_ok (decode_sized text 20)) digest e in
    let ok = ok_some (decode_sized text 20) digest c.1 in
    let len = decode_sized-ok text 20 digest ok in
    let plain = sym (decode_sized-twice text 20 len) ∙ ok in
    let both = decoded text digest c.0 plain in
    let size = (decode_of-ok text digest plain).2 in
    (both.0, record { size = omega (arith, len, size); each = both.1 })

pub digest_field : Reads IsVisible IsDigest digest_text parsed_digest
digest_field = record { again = digest_back; written = digest_written; clean = λ d g. All-weaker IsHexDigit IsVisible hex_is_visible (digest_text d) (hex_clean d g.each) }

-- ---- values

value_back : (value : List ℕ) → IsValue value → parsed_value (encode_lower value) ≡ Some value
unfolding parsed_value
value_back value v =
    ap (option_and_then (if_allowed (λ bytes. nat_le (length bytes) 128))) (bytes_back value v.each)
    ∙ ap (λ t. cond t (Some value) None) (le-leb _ _ v.limit)

value_written : (text value : List ℕ) → parsed_value text ≡ Some value → (encode_lower value ≡ text) × IsValue value
unfolding parsed_value
value_written text value e =
    option_and_then_some (if_allowed (λ bytes. nat_le (length bytes) 128)) (parsed_bytes text) value e (λ bytes is allowed.
    let c = cond_some (nat_le (length bytes) 128) bytes value allowed in
    let w = bytes_written text bytes is in
    subst (λ x. (encode_lower x ≡ text) × IsValue x) c.1 (w.0, record { limit = leb-true _ _ c.0; each = w.1 }))

pub value_digits : Reads IsHexDigit IsValue encode_lower parsed_value
value_digits = record { again = value_back; written = value_written; clean = λ v g. hex_clean v g.each }

-- ---- words

pub word_clean : (text : List ℕ) → list_all (λ b. nat_lt 32 b) text ≡ true → All IsVisible text
word_clean [] e = All-nil IsVisible
word_clean (b ∷ bs) e =
    let parts = and_parts _ _ e in
    All-cons IsVisible b bs (record { above = ltb-true _ _ parts.0 }) (word_clean bs parts.1)

word_by : {A : Type 0} (W : Type 0) (text word : List ℕ) (first other : Option A) (y : A) (t : Bool) → bytes_eq text word ≡ t → (word ≡ text → first ≡ Some y → W) → (other ≡ Some y → W)
    → cond t first other ≡ Some y → W
word_by W text word first other y true is this rest e = this (sym (same_text _ _ (sym is))) e
word_by W text word first other y false is this rest e = rest e

-- a text is this word, or it is read as the others are
pub word_case : {A : Type 0} (W : Type 0) (text word : List ℕ) (first other : Option A) (y : A) → (word ≡ text → first ≡ Some y → W) → (other ≡ Some y → W)
    → cond (bytes_eq text word) first other ≡ Some y → W
word_case W text word first other y this rest e = word_by W text word first other y (bytes_eq text word) refl this rest e

abbrev Any : {A : Type 0} → A → Type 0
Any x = Unit {0}

policy_again : (p : Policy) → Any p → parsed_policy (policy_word p) ≡ Some p
unfolding parsed_policy
policy_again policy.Time g = refl
policy_again policy.Generation g = refl

policy_written : (text : List ℕ) (p : Policy) → parsed_policy text ≡ Some p → (policy_word p ≡ text) × Any p
unfolding parsed_policy
policy_written text p e =
    let W : Type 0 = (policy_word p ≡ text) × Any p in
    word_case W text (codes "time") (Some policy.Time) _ p (λ s i. (ap policy_word (sym (same_Some _ p i)) ∙ s, tt))
    (word_case W text (codes "generation") (Some policy.Generation) None p (λ s i. (ap policy_word (sym (same_Some _ p i)) ∙ s, tt)) (λ n. absurd (none-some p n))) e

policy_clean : (p : Policy) → Any p → All IsVisible (policy_word p)
policy_clean policy.Time g = word_clean (codes "time") refl
policy_clean policy.Generation g = word_clean (codes "generation") refl

pub policy_field : Reads IsVisible (λ p. Unit {0}) policy_word parsed_policy
policy_field = record { again = policy_again; written = policy_written; clean = policy_clean }

action_again : (a : Action) → Any a → parsed_action (action_word a) ≡ Some a
unfolding parsed_action
action_again action.Get g = refl
action_again action.Put g = refl
action_again action.Del g = refl

action_written : (text : List ℕ) (a : Action) → parsed_action text ≡ Some a → (action_word a ≡ text) × Any a
unfolding parsed_action
action_written text a e =
    let W : Type 0 = (action_word a ≡ text) × Any a in
    word_case W text (codes "get") (Some action.Get) _ a (λ s i. (ap action_word (sym (same_Some _ a i)) ∙ s, tt))
    (word_case W text (codes "put") (Some action.Put) _ a (λ s i. (ap action_word (sym (same_Some _ a i)) ∙ s, tt))
    (word_case W text (codes "del") (Some action.Del) None a (λ s i. (ap action_word (sym (same_Some _ a i)) ∙ s, tt)) (λ n. absurd (none-some a n)))) e

action_clean : (a : Action) → Any a → All IsVisible (action_word a)
action_clean action.Get g = word_clean (codes "get") refl
action_clean action.Put g = word_clean (codes "put") refl
action_clean action.Del g = word_clean (codes "del") refl

pub action_field : Reads IsVisible (λ a. Unit {0}) action_word parsed_action
action_field = record { again = action_again; written = action_written; clean = action_clean }
