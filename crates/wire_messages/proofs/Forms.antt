-- How a field is written and how it is read belong together: what was written is read again, what is
-- read was written so, and where it is cut the bytes end too early. Fields follow each other so too.
use Rattle.std.proofs.Common.{◌≡◌, ◌⊎◌, ℕ, ◌+◌, ◌-◌, ◌<◌, ◌≤◌, Bool, true, false, cond, ltb, List, [], ◌∷◌, ◌++◌, length, get_or, take, drop, Option, Some, None, Result, Ok, Err, refl, sym, ap, ◌∙◌, append_assoc, arith, inl, inr, length-append, length-take}
use Rattle.std.specs.List.{AllByRecursion}
use Rattle.std.proofs.lemmas.Bool.{cases_lt, ltb-false, le-ltb, lt-ltb}
use Rattle.std.proofs.lemmas.List.{take-append-le, take_at, drop_at, take-append-drop, get_or-drop, get_or-take, get_or_past}
use Rattle.std.proofs.Math.Seq.{take-append-add}
use Rattle.wire_messages.specs.declared.fault.FieldFault.{FieldFault}
use Rattle.wire_messages.specs.declared.fault.FieldFault.TheVariants.{Short}
use Rattle.wire_messages.specs.Fields.{◌>>=◌, field, whole_field}

-- each number of the list is a byte
abbrev pub IsBytes : List ℕ → Type 0
IsBytes bytes = (i : ℕ) → get_or bytes i 0 < 256

pub IsBytes-drop : (n : ℕ) (bytes : List ℕ) → IsBytes bytes → IsBytes (drop n bytes)
IsBytes-drop n bytes h i = rw get_or-drop (h (n + i))

pub IsBytes-take : (n : ℕ) (bytes : List ℕ) → IsBytes bytes → IsBytes (take n bytes)
IsBytes-take n bytes h i =
    elim (cases_lt i n) [
      | inl lt ↦ rw (get_or-take n bytes i 0 lt) (h i)
      | inr le ↦ rw (get_or_past (take n bytes) i 0 (omega (arith, length-take n bytes))) (omega arith)
    ]

-- the same by cases on the list
abbrev pub Small : List ℕ → Type 0
Small bytes = AllByRecursion (λ b. b < 256) bytes

pub small_append : (xs ys : List ℕ) → Small xs → Small ys → Small (xs ++ ys)
small_append [] ys p q = q
small_append (x ∷ xs) ys p q = (p.0, small_append xs ys p.1 q)

-- what a reader took from the front
pub record Takes {A : Type 0} (IsAllowed : A → Type 0) (write : A → List ℕ) (bytes : List ℕ) (x : A) (rest : List ℕ) : Type 0 where
  pub parts : bytes ≡ write x ++ rest
  pub rest_fits : IsBytes rest
  pub allowed : IsAllowed x

pub record IsForm {A : Type 0} (IsAllowed : A → Type 0) (write : A → List ℕ) (read : List ℕ → Result (A × List ℕ) FieldFault) : Type 0 where
  pub again : (x : A) (rest : List ℕ) → IsAllowed x → read (write x ++ rest) ≡ Ok (x, rest)
  pub takes : (bytes : List ℕ) (x : A) (rest : List ℕ) → IsBytes bytes → read bytes ≡ Ok (x, rest) → Takes IsAllowed write bytes x rest
  pub cut : (x : A) (k : ℕ) → IsAllowed x → k < length (write x) → read (take k (write x)) ≡ Err Short
  pub small : (x : A) → IsAllowed x → Small (write x)

-- ---- one field, and what follows it

pub again_step : {A B : Type 0} {P : A → Type 0} {w : A → List ℕ} {r : List ℕ → Result (A × List ℕ) FieldFault} → IsForm P w r → (x : A) → P x
    → (f : A × List ℕ → Result B FieldFault) (text rest : List ℕ) (y : Result B FieldFault) → f (x, text ++ rest) ≡ y → (r ((w x ++ text) ++ rest) >>= f) ≡ y
again_step {A} {B} {P} {w} {r} form x p f text rest y h =
    ap (λ (b : List ℕ). r b >>= f) (append_assoc (w x) text rest)
    ∙ ap (λ (z : Result (A × List ℕ) FieldFault). z >>= f) (form.again x (text ++ rest) p)
    ∙ h

pub cut_step : {A B : Type 0} {P : A → Type 0} {w : A → List ℕ} {r : List ℕ → Result (A × List ℕ) FieldFault} → IsForm P w r → (x : A) → P x
    → (f : A × List ℕ → Result B FieldFault) (text : List ℕ) → ((j : ℕ) → j < length text → f (x, take j text) ≡ Err Short)
    → (k : ℕ) → k < length (w x ++ text) → (r (take k (w x ++ text)) >>= f) ≡ Err Short
cut_step {A} {B} {P} {w} {r} form x p f text h k lt =
    elim (cases_lt k (length (w x))) [
      | inl short ↦
          ap (λ (b : List ℕ). r b >>= f) (take-append-le k (w x) text (omega arith))
          ∙ ap (λ (z : Result (A × List ℕ) FieldFault). z >>= f) (form.cut x k p short)
      | inr long ↦
          let j = k - length (w x) in
          let is : k ≡ length (w x) + j = omega arith in
          ap (λ (i : ℕ). r (take i (w x ++ text)) >>= f) is
          ∙ ap (λ (b : List ℕ). r b >>= f) (take-append-add (w x) text j)
          ∙ ap (λ (z : Result (A × List ℕ) FieldFault). z >>= f) (form.again x (take j text) p)
          ∙ h j (omega (arith, length-append (w x) text, lt))
    ]

pub small_step : {A : Type 0} {P : A → Type 0} {w : A → List ℕ} {r : List ℕ → Result (A × List ℕ) FieldFault} → IsForm P w r → (x : A) → P x
    → (text : List ℕ) → Small text → Small (w x ++ text)
small_step {A} {P} {w} {r} form x p text h = small_append (w x) text (form.small x p) h

-- the value of a step that didn't fail
pub bind_ok : {A B : Type 0} (r : Result A FieldFault) (f : A → Result B FieldFault) (y : B) → (r >>= f) ≡ Ok y → (x : A) × (r ≡ Ok x) × (f x ≡ Ok y)
bind_ok (Ok x) f y e = (x, refl, e)
bind_ok (Err d) f y e = absurd cc

pub record Took {A B : Type 0} (IsAllowed : A → Type 0) (write : A → List ℕ) (bytes : List ℕ) (f : A × List ℕ → Result B FieldFault) (y : B) : Type 0 where
  pub value : A
  pub rest : List ℕ
  pub takes : Takes IsAllowed write bytes value rest
  pub next : f (value, rest) ≡ Ok y

pub took : {A B : Type 0} {P : A → Type 0} {w : A → List ℕ} {r : List ℕ → Result (A × List ℕ) FieldFault} → IsForm P w r → (bytes : List ℕ) → IsBytes bytes
    → (f : A × List ℕ → Result B FieldFault) (y : B) → (r bytes >>= f) ≡ Ok y → Took P w bytes f y
took form bytes fits f y e =
    let b = bind_ok _ f y e in
    record { value = b.0.0; rest = b.0.1; takes = form.takes bytes b.0.0 b.0.1 fits b.1; next = b.2 }

-- one text, and then others
pub joined : (bytes x b text c : List ℕ) → bytes ≡ x ++ b → b ≡ text ++ c → bytes ≡ (x ++ text) ++ c
joined bytes x b text c p q = p ∙ ap (λ (t : List ℕ). x ++ t) q ∙ sym (append_assoc x text c)

abbrev pub done : {A : Type 0} → A → Result A FieldFault
done x = Ok x

pub ok_is : {A : Type 0} (x y : A) → done x ≡ done y → x ≡ y
ok_is x y e = cc

-- which way a test went
pub chosen : {A : Type 0} (b : Bool) (x y z : A) → cond b x y ≡ z → ((b ≡ true) × (x ≡ z)) ⊎ ((b ≡ false) × (y ≡ z))
chosen true x y z e = inl (refl, e)
chosen false x y z e = inr (refl, e)

-- ---- a field of a known width

pub whole_ok : {A : Type 0} (left : ℕ) (o : Option A) (rest : List ℕ) (x : A) (r : List ℕ) → whole_field left o rest ≡ Ok (x, r) → (o ≡ Some x) × (rest ≡ r)
whole_ok left (Some y) rest x r e = let same = ok_is (y, rest) (x, r) e in (ap (λ p. Some p.0) same, ap (λ p. p.1) same)
whole_ok left None rest x r e = absurd cc

pub field_form : {A : Type 0} (P : A → Type 0) (w : A → List ℕ) (width : ℕ) (value_of : List ℕ → Option A)
    → ((x : A) → P x → length (w x) ≡ width)
    → ((x : A) → P x → value_of (w x) ≡ Some x)
    → ((bytes : List ℕ) (x : A) → length bytes ≡ width → IsBytes bytes → value_of bytes ≡ Some x → P x × (w x ≡ bytes))
    → ((x : A) → P x → Small (w x))
    → IsForm P w (field width value_of)
unfolding field
field_form {A} P w width value_of len back out small = record {
  again = λ x rest p.
      let n = len x p in
      let long : ltb (length (w x ++ rest)) width ≡ false = le-ltb _ _ (omega (arith, length-append (w x) rest)) in
      rw (long, take_at (w x) rest width n, drop_at (w x) rest width n, back x p) refl;
  takes = λ bytes x rest fits e.
      elim (chosen (ltb (length bytes) width) _ _ _ e) [
        | inl short ↦ absurd (let no : Err Short ≡ Ok (x, rest) = short.1 in cc)
        | inr long ↦
            let wide : width ≤ length bytes = ltb-false _ _ long.0 in
            let o = whole_ok (length bytes) (value_of (take width bytes)) (drop width bytes) x rest long.1 in
            let is = out (take width bytes) x (omega (arith, length-take width bytes)) (IsBytes-take width bytes fits) o.0 in
            record { parts = rw (is.1, ← o.1) (sym (take-append-drop width bytes)); rest_fits = rw (← o.1) (IsBytes-drop width bytes fits); allowed = is.0 }
      ];
  cut = λ x k p lt.
      let short : ltb (length (take k (w x))) width ≡ true = lt-ltb _ _ (omega (arith, length-take k (w x), len x p)) in
      rw short refl;
  small = small;
}
