-- A choice is a form: a tag that says which one it is, and what belongs to it. So are two fields, the
-- second read by the first.
use Rattle.std.proofs.Common.{◌≡◌, ℕ, ◌<◌, Bool, true, List, [], ◌++◌, length, take, Result, Ok, Err, sym, ap, subst, ◌∙◌}
use Rattle.wire_messages.specs.declared.fault.FieldFault.{FieldFault}
use Rattle.wire_messages.specs.declared.fault.FieldFault.TheVariants.{Short}
use Rattle.wire_messages.specs.Fields.{◌>>=◌}
use Rattle.wire_messages.specs.Numbers.{byte_field, byte_at}
use Rattle.wire_messages.proofs.Forms.{IsBytes, Small, IsForm, Takes, again_step, cut_step, small_step, took, ok_is, done, joined}
use Rattle.wire_messages.proofs.NumberForms.{Allowed, byte_form}

-- what was read behind a tag
pub record Tagged {X : Type 0} (Q : X → Type 0) (tag_of : X → ℕ) (text : X → List ℕ) (tag : ℕ) (bytes : List ℕ) (x : X) (rest : List ℕ) : Type 0 where
  pub same : tag ≡ tag_of x
  pub parts : bytes ≡ text x ++ rest
  pub rest_fits : IsBytes rest
  pub allowed : Q x

-- how choices are told by their tags
pub record IsChoice {X : Type 0} (Q : X → Type 0) (allowed : ℕ → Bool) (tag_of : X → ℕ) (text : X → List ℕ) (pick : ℕ → List ℕ → Result (X × List ℕ) FieldFault) : Type 0 where
  pub tag : (x : X) → Q x → Allowed allowed 256 (tag_of x)
  pub again : (x : X) (rest : List ℕ) → Q x → pick (tag_of x) (text x ++ rest) ≡ Ok (x, rest)
  pub takes : (tag : ℕ) (bytes : List ℕ) (x : X) (rest : List ℕ) → allowed tag ≡ true → IsBytes bytes → pick tag bytes ≡ Ok (x, rest) → Tagged Q tag_of text tag bytes x rest
  pub cut : (x : X) (k : ℕ) → Q x → k < length (text x) → pick (tag_of x) (take k (text x)) ≡ Err Short
  pub small : (x : X) → Q x → Small (text x)

pub choice_form : {X : Type 0} (Q : X → Type 0) (w : X → List ℕ) (allowed : ℕ → Bool) (tag_of : X → ℕ) (text : X → List ℕ) (pick : ℕ → List ℕ → Result (X × List ℕ) FieldFault)
    → IsChoice Q allowed tag_of text pick → ((x : X) → byte_field (tag_of x) ++ text x ≡ w x) → IsForm Q w (λ bytes. byte_at allowed bytes >>= λ tag. pick tag.0 tag.1)
choice_form {X} Q w allowed tag_of text pick choice spelled = record {
  again = λ x rest q.
      ap (λ t. byte_at allowed (t ++ rest) >>= λ tag. pick tag.0 tag.1) (sym (spelled x))
      ∙ again_step (byte_form allowed) (tag_of x) (choice.tag x q) (λ tag. pick tag.0 tag.1) (text x) rest _ (choice.again x rest q);
  takes = λ bytes x rest fits e.
      let t = took (byte_form allowed) bytes fits (λ tag. pick tag.0 tag.1) (x, rest) e in
      let c = choice.takes t.value t.rest x rest t.takes.allowed.test t.takes.rest_fits t.next in
      record {
        parts = joined bytes (byte_field t.value) t.rest (text x) rest t.takes.parts c.parts
            ∙ ap (λ n. (byte_field n ++ text x) ++ rest) c.same
            ∙ ap (λ t. t ++ rest) (spelled x);
        rest_fits = c.rest_fits;
        allowed = c.allowed;
      };
  cut = λ x k q lt.
      ap (λ t. byte_at allowed (take k t) >>= λ tag. pick tag.0 tag.1) (sym (spelled x))
      ∙ cut_step (byte_form allowed) (tag_of x) (choice.tag x q) (λ tag. pick tag.0 tag.1) (text x) (λ j less. choice.cut x j q less) k
      (subst (λ t. k < length t) (sym (spelled x)) lt);
  small = λ x q. subst Small (spelled x) (small_step (byte_form allowed) (tag_of x) (choice.tag x q) (text x) (choice.small x q));
}

-- ---- a choice to which nothing belongs

pub plain_taken : {X : Type 0} (Q : X → Type 0) (tag_of : X → ℕ) (text : X → List ℕ) (c : X) (tag : ℕ) → tag ≡ tag_of c → text c ≡ [] → Q c
    → (bytes : List ℕ) → IsBytes bytes → (x : X) (rest : List ℕ) → done {A = X × List ℕ} (c, bytes) ≡ Ok (x, rest) → Tagged Q tag_of text tag bytes x rest
plain_taken {X} Q tag_of text c tag same none q bytes fits x rest e =
    subst (λ (y : X × List ℕ). Tagged Q tag_of text tag bytes y.0 y.1) (ok_is (c, bytes) (x, rest) e)
    (record { same = same; parts = ap (λ t. t ++ bytes) (sym none); rest_fits = fits; allowed = q })

-- ---- a choice to which one value belongs

-- the value that is made of another
abbrev pub made : {A X : Type 0} → (A → X) → A × List ℕ → Result (X × List ℕ) FieldFault
made make y = Ok (make y.0, y.1)

pub one_again : {A X : Type 0} {P : A → Type 0} {w : A → List ℕ} {r : List ℕ → Result (A × List ℕ) FieldFault} → IsForm P w r → (make : A → X) (a : A) → P a
    → (rest : List ℕ) → (r (w a ++ rest) >>= made make) ≡ Ok (make a, rest)
one_again form make a p rest = ap (λ z. z >>= made make) (form.again a rest p)

pub one_cut : {A X : Type 0} {P : A → Type 0} {w : A → List ℕ} {r : List ℕ → Result (A × List ℕ) FieldFault} → IsForm P w r → (make : A → X) (a : A) → P a
    → (k : ℕ) → k < length (w a) → (r (take k (w a)) >>= made make) ≡ Err Short
one_cut form make a p k lt = ap (λ z. z >>= made make) (form.cut a k p lt)

pub one_taken : {A X : Type 0} {P : A → Type 0} {w : A → List ℕ} {r : List ℕ → Result (A × List ℕ) FieldFault} → IsForm P w r
    → (Q : X → Type 0) (tag_of : X → ℕ) (text : X → List ℕ) (make : A → X) (tag : ℕ) → ((a : A) → tag ≡ tag_of (make a)) → ((a : A) → w a ≡ text (make a)) → ((a : A) → P a → Q (make a))
    → (bytes : List ℕ) → IsBytes bytes → (x : X) (rest : List ℕ) → (r bytes >>= made make) ≡ Ok (x, rest) → Tagged Q tag_of text tag bytes x rest
one_taken {A} {X} form Q tag_of text make tag same spelled from bytes fits x rest e =
    let t = took form bytes fits (made make) (x, rest) e in
    subst (λ (y : X × List ℕ). Tagged Q tag_of text tag bytes y.0 y.1) (ok_is (make t.value, t.rest) (x, rest) t.next)
    (record {
      same = same t.value;
      parts = t.takes.parts ∙ ap (λ s. s ++ t.rest) (spelled t.value);
      rest_fits = t.takes.rest_fits;
      allowed = from t.value t.takes.allowed;
    })

-- ---- two fields

pub record IsPair {A B Z : Type 0} (P : A → Type 0) (R : A → B → Type 0) (Q : Z → Type 0) (first : Z → A) (second : Z → B) (make : A → B → Z) : Type 0 where
  pub whole : (z : Z) → make (first z) (second z) ≡ z
  pub first_is : (a : A) (b : B) → first (make a b) ≡ a
  pub second_is : (a : A) (b : B) → second (make a b) ≡ b
  pub from : (a : A) (b : B) → P a → R a b → Q (make a b)
  pub to_first : (z : Z) → Q z → P (first z)
  pub to_second : (z : Z) → Q z → R (first z) (second z)

pub pair_form : {A B Z : Type 0} (P : A → Type 0) (w : A → List ℕ) (r : List ℕ → Result (A × List ℕ) FieldFault) → IsForm P w r
    → (R : A → B → Type 0) (v : B → List ℕ) (s : A → List ℕ → Result (B × List ℕ) FieldFault) → ((a : A) → IsForm (R a) v (s a))
    → (Q : Z → Type 0) (first : Z → A) (second : Z → B) (make : A → B → Z) → IsPair P R Q first second make
    → IsForm Q (λ z. w (first z) ++ v (second z)) (λ bytes. r bytes >>= λ a. s a.0 a.1 >>= λ b. Ok (make a.0 b.0, b.1))
pair_form {A} {B} {Z} P w r fa R v s fb Q first second make pair = record {
  again = λ z rest q.
      again_step fa (first z) (pair.to_first z q) (λ a. s a.0 a.1 >>= λ b. Ok (make a.0 b.0, b.1)) (v (second z)) rest _
      (one_again (fb (first z)) (make (first z)) (second z) (pair.to_second z q) rest)
      ∙ ap (λ y. done (y, rest)) (pair.whole z);
  takes = λ bytes z rest fits e.
      let t = took fa bytes fits (λ a. s a.0 a.1 >>= λ b. Ok (make a.0 b.0, b.1)) (z, rest) e in
      let u = took (fb t.value) t.rest t.takes.rest_fits (λ b. Ok (make t.value b.0, b.1)) (z, rest) t.next in
      let same = ok_is (make t.value u.value, u.rest) (z, rest) u.next in
      subst (λ (y : Z × List ℕ). Takes Q (λ z. w (first z) ++ v (second z)) bytes y.0 y.1) same
      (record {
        parts = joined bytes (w t.value) t.rest (v u.value) u.rest t.takes.parts u.takes.parts
            ∙ ap (λ a. (w a ++ v u.value) ++ u.rest) (sym (pair.first_is t.value u.value))
            ∙ ap (λ b. (w (first (make t.value u.value)) ++ v b) ++ u.rest) (sym (pair.second_is t.value u.value));
        rest_fits = u.takes.rest_fits;
        allowed = pair.from t.value u.value t.takes.allowed u.takes.allowed;
      });
  cut = λ z k q lt.
      cut_step fa (first z) (pair.to_first z q) (λ a. s a.0 a.1 >>= λ b. Ok (make a.0 b.0, b.1)) (v (second z))
      (λ j less. one_cut (fb (first z)) (make (first z)) (second z) (pair.to_second z q) j less) k lt;
  small = λ z q. small_step fa (first z) (pair.to_first z q) (v (second z)) ((fb (first z)).small (second z) (pair.to_second z q));
}
