-- How requests that were taken up are found, and what keeps their places.
use Rattle.std.proofs.Common.{◌≡◌, ◌==◌, ◌<◌, ◌⊎◌, inl, inr, ℕ, zero, suc, Bool, true, false, cond, List, [], ◌∷◌, ◌++◌, length, set, slice_get, min, MatchOption, Result, Ok, Err, OnOk, IsOk, Option, Some, None, refl, sym, ap, ap₂, subst, ◌∙◌, arith}
use Rattle.std.specs.Prelude.{find, option_map}
use Rattle.std.proofs.lemmas.Bool.Decides.{nat_tests, eqb_tells}
use Rattle.std.proofs.lemmas.List.{length-set, get_or-set_same}
use Rattle.std.proofs.lemmas.Option.{slice_get-get_or, slice_get_within}
use Rattle.cluster_types.proofs.BoolFacts.{and_left, and_right, and_both}
use Rattle.wire_messages.specs.declared.reply.ReplyBody.{ReplyBody}
use Rattle.request_rules.specs.declared.taken.Asker.{Asker}
use Rattle.request_rules.specs.declared.taken.Outcome.{Outcome}
use Rattle.request_rules.specs.declared.taken.Outcome.TheVariants as outcome
use Rattle.request_rules.specs.declared.taken.Taken.{Taken}
use Rattle.request_rules.specs.TakenUp.{bound_to, is_bound_to, keeping, outcome_for, replied_if, same_asker}
use Rattle.reply_table.specs.Kept.{is_transaction, open_transaction}
use Rattle.reply_table.specs.Places.{AreIndexed, IsNobodys, IsPlaceOfAsker, StandsInPlace}

-- ---- askers and numbers

pub number_is : (a b : ℕ) → (a == b) ≡ true → a ≡ b
number_is a b e = grind (arith, nat_tests)

same_number : (a b : ℕ) → a ≡ b → (a == b) ≡ true
same_number a b e = grind (arith, nat_tests)

pub asker_is : (a b : Asker) → same_asker a b ≡ true → a ≡ b
asker_is a b e =
    ap₂ (λ f n. record { from = f; number = n })
    (number_is a.from b.from (and_left (a.from == b.from) (a.number == b.number) e))
    (number_is a.number b.number (and_right (a.from == b.from) (a.number == b.number) e))

pub asker_same : (a b : Asker) → a ≡ b → same_asker a b ≡ true
asker_same a b e =
    and_both (a.from == b.from) (a.number == b.number) (same_number a.from b.from (ap (λ (x : Asker). x.from) e))
    (same_number a.number b.number (ap (λ (x : Asker). x.number) e))

pub some_is : {A : Type 0} (a b : A) → Some a ≡ Some b → a ≡ b
some_is a b e = cc

is_or : (b : Bool) → (b ≡ true) ⊎ (b ≡ false)
is_or true = inl refl
is_or false = inr refl

-- ---- the one that passes a test

-- nothing else that passes the test stands in the list
abbrev IsOnly : (Taken → Bool) → List Taken → ℕ → Type 0
IsOnly test xs i = (j : ℕ) (y : Taken) → slice_get xs j ≡ Some y → test y ≡ true → j ≡ i

found : (test : Taken → Bool) (xs : List Taken) (i : ℕ) (x : Taken) → slice_get xs i ≡ Some x → test x ≡ true → IsOnly test xs i → find test xs ≡ Some x
found test [] i x at passes only = absurd (let wrong : None ≡ Some x = at in cc)
found test (y ∷ ys) zero x at passes only =
    let same : y ≡ x = some_is y x at in
    ap (λ b. cond b (Some y) (find test ys)) (ap test same ∙ passes) ∙ ap (λ (z : Taken). Some z) same
found test (y ∷ ys) (suc i) x at passes only =
    go (is_or (test y)) (found test ys i x at passes (λ j z there it. let e : suc j ≡ suc i = only (suc j) z there it in omega arith))
  where
    go : (test y ≡ true) ⊎ (test y ≡ false) → find test ys ≡ Some x → find test (y ∷ ys) ≡ Some x
    go (inl e) rest = absurd (let wrong : zero ≡ suc i = only zero y refl e in omega arith)
    go (inr e) rest = ap (λ b. cond b (Some y) (find test ys)) e ∙ rest

missed : (test : Taken → Bool) (xs : List Taken) → ((j : ℕ) (y : Taken) → slice_get xs j ≡ Some y → test y ≡ true → ⊥) → find test xs ≡ None
missed test [] none = refl
missed test (y ∷ ys) none = go (is_or (test y)) (missed test ys (λ j z there it. none (suc j) z there it))
  where
    go : (test y ≡ true) ⊎ (test y ≡ false) → find test ys ≡ None → find test (y ∷ ys) ≡ None
    go (inl e) rest = absurd (none zero y refl e)
    go (inr e) rest = ap (λ b. cond b (Some y) (find test ys)) e ∙ rest

module _ (taken : List Taken) (f : Asker → Option ℕ) (g : ℕ → Option ℕ) where
  only_asker : AreIndexed taken f g → (i : ℕ) (x : Taken) (a : Asker) → slice_get taken i ≡ Some x → same_asker x.asker a ≡ true → IsOnly (λ y. same_asker y.asker a) taken i
  only_asker h i x a at passes j y there it =
      let first : f a ≡ Some i = sym (ap f (asker_is x.asker a passes)) ∙ h.asker i x at in
      let second : f a ≡ Some j = sym (ap f (asker_is y.asker a it)) ∙ h.asker j y there in
      some_is j i (sym second ∙ first)

  only_transaction : AreIndexed taken f g → (i : ℕ) (x : Taken) (t : ℕ) → slice_get taken i ≡ Some x → is_bound_to t x.outcome ≡ true → IsOnly (λ y. is_bound_to t y.outcome) taken i
  only_transaction h i x t at passes j y there it = some_is j i (sym (h.transaction j y t there it) ∙ h.transaction i x t at passes)

  pub outcome_at : AreIndexed taken f g → (i : ℕ) (x : Taken) (a : Asker) → slice_get taken i ≡ Some x → same_asker x.asker a ≡ true → outcome_for taken a ≡ Some x.outcome
  outcome_at h i x a at passes = ap (option_map (λ (y : Taken). y.outcome)) (found (λ y. same_asker y.asker a) taken i x at passes (only_asker h i x a at passes))

  pub bound_at : AreIndexed taken f g → (i : ℕ) (x : Taken) (t : ℕ) → slice_get taken i ≡ Some x → is_bound_to t x.outcome ≡ true → bound_to taken t ≡ Some x.asker
  bound_at h i x t at passes = ap (option_map (λ (y : Taken). y.asker)) (found (λ y. is_bound_to t y.outcome) taken i x at passes (only_transaction h i x t at passes))

  pub outcome_none : AreIndexed taken f g → (a : Asker) → f a ≡ None → outcome_for taken a ≡ None
  outcome_none h a e = ap (option_map (λ (y : Taken). y.outcome)) (missed (λ y. same_asker y.asker a) taken (λ j y there it.
      let wrong : None ≡ Some j = sym e ∙ sym (ap f (asker_is y.asker a it)) ∙ h.asker j y there in cc))

  pub bound_none : AreIndexed taken f g → (t : ℕ) → g t ≡ None → bound_to taken t ≡ None
  bound_none h t e = ap (option_map (λ (y : Taken). y.asker)) (missed (λ y. is_bound_to t y.outcome) taken (λ j y there it.
      let wrong : None ≡ Some j = sym e ∙ h.transaction j y t there it in cc))

  pub is_place : AreIndexed taken f g → (a : Asker) (i : ℕ) → f a ≡ Some i → IsPlaceOfAsker taken a i
  is_place h a i e =
      let s = h.asker_stands a i e in
      record {
        within = slice_get_within taken i s.request s.at;
        is = λ x at. outcome_at h i x a at (subst (λ (y : Taken). same_asker y.asker a ≡ true) (some_is s.request x (sym s.at ∙ at)) s.passes);
      }

  pub bound_place : AreIndexed taken f g → (t i : ℕ) → g t ≡ Some i → (i < length taken) × ((x : Taken) → slice_get taken i ≡ Some x → bound_to taken t ≡ Some x.asker)
  bound_place h t i e =
      let s = h.transaction_stands t i e in (
        slice_get_within taken i s.request s.at,
        λ x at. bound_at h i x t at (subst (λ (y : Taken). is_bound_to t y.outcome ≡ true) (some_is s.request x (sym s.at ∙ at)) s.passes),
      )

-- ---- one more

before_push : (xs ys : List Taken) (i : ℕ) (x : Taken) → slice_get xs i ≡ Some x → slice_get (xs ++ ys) i ≡ Some x
before_push [] ys i x e = absurd (let wrong : None ≡ Some x = e in cc)
before_push (y ∷ xs) ys zero x e = e
before_push (y ∷ xs) ys (suc i) x e = before_push xs ys i x e

at_push : (xs : List Taken) (y : Taken) → slice_get (xs ++ y ∷ []) (length xs) ≡ Some y
at_push [] y = refl
at_push (x ∷ xs) y = at_push xs y

pushed_at : (xs : List Taken) (y : Taken) (i : ℕ) (x : Taken) → slice_get (xs ++ y ∷ []) i ≡ Some x → (slice_get xs i ≡ Some x) ⊎ (i ≡ length xs) × (x ≡ y)
pushed_at [] y zero x e = inr (refl, some_is x y (sym e))
pushed_at [] y (suc i) x e = absurd (let wrong : None ≡ Some x = e in cc)
pushed_at (z ∷ xs) y zero x e = inl e
pushed_at (z ∷ xs) y (suc i) x e = go (pushed_at xs y i x e)
  where
    go : (slice_get xs i ≡ Some x) ⊎ (i ≡ length xs) × (x ≡ y) → (slice_get xs i ≡ Some x) ⊎ (suc i ≡ length (z ∷ xs)) × (x ≡ y)
    go (inl h) = inl h
    go (inr h) = inr (omega (arith, h.0), h.1)

module _ (taken : List Taken) (f f2 : Asker → Option ℕ) (g g2 : ℕ → Option ℕ) (y : Taken) where
  abbrev pushed : List Taken
  pushed = taken ++ y ∷ []

  abbrev IsAskerAdded : Type 0
  IsAskerAdded = (q : Asker) → f2 q ≡ cond (same_asker y.asker q) (Some (length taken)) (f q)

  abbrev IsTransactionAdded : Type 0
  IsTransactionAdded = (n : ℕ) → g2 n ≡ cond (is_bound_to n y.outcome) (Some (length taken)) (g n)

  asker_pushed : AreIndexed taken f g → outcome_for taken y.asker ≡ None → IsAskerAdded → (i : ℕ) (x : Taken) → slice_get pushed i ≡ Some x → f2 x.asker ≡ Some i
  asker_pushed h new added i x at = go (pushed_at taken y i x at)
    where
      old : slice_get taken i ≡ Some x → (same_asker y.asker x.asker ≡ true) ⊎ (same_asker y.asker x.asker ≡ false) → f2 x.asker ≡ Some i
      old there (inl e) =
          let known : outcome_for taken y.asker ≡ Some x.outcome = outcome_at taken f g h i x y.asker there (asker_same x.asker y.asker (sym (asker_is y.asker x.asker e))) in
          absurd (let wrong : None ≡ Some x.outcome = sym new ∙ known in cc)
      old there (inr e) = added x.asker ∙ ap (λ b. cond b (Some (length taken)) (f x.asker)) e ∙ h.asker i x there

      go : (slice_get taken i ≡ Some x) ⊎ (i ≡ length taken) × (x ≡ y) → f2 x.asker ≡ Some i
      go (inl there) = old there (is_or (same_asker y.asker x.asker))
      go (inr here) =
          added x.asker
          ∙ ap (λ b. cond b (Some (length taken)) (f x.asker)) (asker_same y.asker x.asker (ap (λ (z : Taken). z.asker) (sym here.1)))
          ∙ ap (λ n. Some n) (sym here.0)

  asker_stands_pushed : AreIndexed taken f g → IsAskerAdded → (a : Asker) (i : ℕ) → f2 a ≡ Some i → StandsInPlace pushed (λ x. same_asker x.asker a) i
  asker_stands_pushed h added a i e = go (is_or (same_asker y.asker a))
    where
      go : (same_asker y.asker a ≡ true) ⊎ (same_asker y.asker a ≡ false) → StandsInPlace pushed (λ x. same_asker x.asker a) i
      go (inl it) =
          let place : length taken ≡ i = some_is (length taken) i (sym (added a ∙ ap (λ b. cond b (Some (length taken)) (f a)) it) ∙ e) in
          record { request = y; at = ap (slice_get pushed) (sym place) ∙ at_push taken y; passes = it }
      go (inr it) =
          let s = h.asker_stands a i (sym (added a ∙ ap (λ b. cond b (Some (length taken)) (f a)) it) ∙ e) in
          record { request = s.request; at = before_push taken (y ∷ []) i s.request s.at; passes = s.passes }

  transaction_pushed : AreIndexed taken f g → ((n : ℕ) → is_bound_to n y.outcome ≡ true → bound_to taken n ≡ None) → IsTransactionAdded → (i : ℕ) (x : Taken) (n : ℕ) → slice_get pushed i ≡ Some x → is_bound_to n x.outcome ≡ true → g2 n ≡ Some i
  transaction_pushed h free added i x n at it = go (pushed_at taken y i x at)
    where
      old : slice_get taken i ≡ Some x → (is_bound_to n y.outcome ≡ true) ⊎ (is_bound_to n y.outcome ≡ false) → g2 n ≡ Some i
      old there (inl e) = absurd (let wrong : None ≡ Some x.asker = sym (free n e) ∙ bound_at taken f g h i x n there it in cc)
      old there (inr e) = added n ∙ ap (λ b. cond b (Some (length taken)) (g n)) e ∙ h.transaction i x n there it

      go : (slice_get taken i ≡ Some x) ⊎ (i ≡ length taken) × (x ≡ y) → g2 n ≡ Some i
      go (inl there) = old there (is_or (is_bound_to n y.outcome))
      go (inr here) =
          added n
          ∙ ap (λ b. cond b (Some (length taken)) (g n)) (ap (λ (z : Taken). is_bound_to n z.outcome) (sym here.1) ∙ it)
          ∙ ap (λ m. Some m) (sym here.0)

  transaction_stands_pushed : AreIndexed taken f g → IsTransactionAdded → (n i : ℕ) → g2 n ≡ Some i → StandsInPlace pushed (λ x. is_bound_to n x.outcome) i
  transaction_stands_pushed h added n i e = go (is_or (is_bound_to n y.outcome))
    where
      go : (is_bound_to n y.outcome ≡ true) ⊎ (is_bound_to n y.outcome ≡ false) → StandsInPlace pushed (λ x. is_bound_to n x.outcome) i
      go (inl it) =
          let place : length taken ≡ i = some_is (length taken) i (sym (added n ∙ ap (λ b. cond b (Some (length taken)) (g n)) it) ∙ e) in
          record { request = y; at = ap (slice_get pushed) (sym place) ∙ at_push taken y; passes = it }
      go (inr it) =
          let s = h.transaction_stands n i (sym (added n ∙ ap (λ b. cond b (Some (length taken)) (g n)) it) ∙ e) in
          record { request = s.request; at = before_push taken (y ∷ []) i s.request s.at; passes = s.passes }

  pub indexed_pushed : AreIndexed taken f g → outcome_for taken y.asker ≡ None → ((n : ℕ) → is_bound_to n y.outcome ≡ true → bound_to taken n ≡ None) → IsAskerAdded → IsTransactionAdded → AreIndexed pushed f2 g2
  indexed_pushed h new free askers transactions = record {
    asker = asker_pushed h new askers;
    asker_stands = asker_stands_pushed h askers;
    transaction = transaction_pushed h free transactions;
    transaction_stands = transaction_stands_pushed h transactions;
  }

-- ---- a reply in the place of a transaction

set_same : (s : List Taken) (i j : ℕ) (y : Taken) → j ≡ i → i < length s → slice_get (set s i y) j ≡ Some y
set_same s i j y e l =
    ap (slice_get (set s i y)) e
    ∙ slice_get-get_or (set s i y) i y (omega (arith, length-set s i y))
    ∙ ap (λ (z : Taken). Some z) (get_or-set_same s i y y l)

set_other : (s : List Taken) (i j : ℕ) (y : Taken) → (j ≡ i → ⊥) → slice_get (set s i y) j ≡ slice_get s j
set_other [] i j y other = refl
set_other (x ∷ s) zero zero y other = absurd (other refl)
set_other (x ∷ s) zero (suc j) y other = refl
set_other (x ∷ s) (suc i) zero y other = refl
set_other (x ∷ s) (suc i) (suc j) y other = set_other s i j y (λ e. other (ap suc e))

unbound : (xs : List Taken) (t : ℕ) (b : ReplyBody) → ((j : ℕ) (y : Taken) → slice_get xs j ≡ Some y → is_bound_to t y.outcome ≡ true → ⊥) → keeping xs t b ≡ xs
unbound [] t b none = refl
unbound (x ∷ xs) t b none =
    ap₂ (λ c ys. replied_if b x c ∷ ys) (front (is_or (is_bound_to t x.outcome))) (unbound xs t b (λ j y there it. none (suc j) y there it))
  where
    front : (is_bound_to t x.outcome ≡ true) ⊎ (is_bound_to t x.outcome ≡ false) → is_bound_to t x.outcome ≡ false
    front (inl e) = absurd (none zero x refl e)
    front (inr e) = e

kept_at : (xs : List Taken) (i : ℕ) (x : Taken) (t : ℕ) (b : ReplyBody) → slice_get xs i ≡ Some x → is_bound_to t x.outcome ≡ true → IsOnly (λ y. is_bound_to t y.outcome) xs i → keeping xs t b ≡ set xs i (record x { outcome = outcome.Kept b })
kept_at [] i x t b at passes only = absurd (let wrong : None ≡ Some x = at in cc)
kept_at (y ∷ ys) zero x t b at passes only =
    let same : y ≡ x = some_is y x at in
    let its : is_bound_to t y.outcome ≡ true = ap (λ (z : Taken). is_bound_to t z.outcome) same ∙ passes in
    ap₂ (λ c zs. replied_if b y c ∷ zs) its (unbound ys t b (λ j z there it. let wrong : suc j ≡ zero = only (suc j) z there it in omega arith))
    ∙ ap (λ (z : Taken). record z { outcome = outcome.Kept b } ∷ ys) same
kept_at (y ∷ ys) (suc i) x t b at passes only =
    ap₂ (λ c zs. replied_if b y c ∷ zs) (front (is_or (is_bound_to t y.outcome)))
    (kept_at ys i x t b at passes (λ j z there it. let e : suc j ≡ suc i = only (suc j) z there it in omega arith))
  where
    front : (is_bound_to t y.outcome ≡ true) ⊎ (is_bound_to t y.outcome ≡ false) → is_bound_to t y.outcome ≡ false
    front (inl e) = absurd (let wrong : zero ≡ suc i = only zero y refl e in omega arith)
    front (inr e) = e

number_of : (o : Outcome) (n : ℕ) → is_transaction (open_transaction o) n ≡ is_bound_to n o
number_of (outcome.Open t) n = refl
number_of (outcome.Kept b) n = refl

bound_open : (o : Outcome) (t : ℕ) → o ≡ outcome.Open t → is_bound_to t o ≡ true
bound_open o t e = ap (is_bound_to t) e ∙ same_number t t refl

pub reply_placed : (taken : List Taken) (f : Asker → Option ℕ) (g : ℕ → Option ℕ) → AreIndexed taken f g → (i : ℕ) (x : Taken) (t : ℕ) (b : ReplyBody) → slice_get taken i ≡ Some x → x.outcome ≡ outcome.Open t → keeping taken t b ≡ set taken i (record x { outcome = outcome.Kept b })
reply_placed taken f g h i x t b at e = kept_at taken i x t b at (bound_open x.outcome t e) (only_transaction taken f g h i x t at (bound_open x.outcome t e))

module _ (taken : List Taken) (f : Asker → Option ℕ) (g g2 : ℕ → Option ℕ) (i : ℕ) (x : Taken) (b : ReplyBody) where
  abbrev reply : Taken
  reply = record x { outcome = outcome.Kept b }

  abbrev replied : List Taken
  replied = set taken i reply

  abbrev IsForgotten : Type 0
  IsForgotten = (n : ℕ) → g2 n ≡ cond (is_transaction (open_transaction x.outcome) n) None (g n)

  still : IsForgotten → (n : ℕ) → is_bound_to n x.outcome ≡ false → g2 n ≡ g n
  still forgot n e = forgot n ∙ ap (λ c. cond c None (g n)) (number_of x.outcome n ∙ e)

  asker_replied : AreIndexed taken f g → slice_get taken i ≡ Some x → (j : ℕ) (z : Taken) → slice_get replied j ≡ Some z → f z.asker ≡ Some j
  asker_replied h at j z there = go (eqb_tells j i)
    where
      go : ((j == i) ≡ true) × (j ≡ i) ⊎ ((j == i) ≡ false) × (j ≡ i → ⊥) → f z.asker ≡ Some j
      go (inl e) =
          let same : reply ≡ z = some_is reply z (sym (set_same taken i j reply e.1 (slice_get_within taken i x at)) ∙ there) in
          ap (λ (u : Taken). f u.asker) (sym same) ∙ h.asker i x at ∙ ap (λ n. Some n) (sym e.1)
      go (inr e) = h.asker j z (sym (set_other taken i j reply e.1) ∙ there)

  asker_stands_replied : AreIndexed taken f g → slice_get taken i ≡ Some x → (a : Asker) (j : ℕ) → f a ≡ Some j → StandsInPlace replied (λ u. same_asker u.asker a) j
  asker_stands_replied h at a j e = go (eqb_tells j i) (h.asker_stands a j e)
    where
      go : ((j == i) ≡ true) × (j ≡ i) ⊎ ((j == i) ≡ false) × (j ≡ i → ⊥) → StandsInPlace taken (λ u. same_asker u.asker a) j → StandsInPlace replied (λ u. same_asker u.asker a) j
      go (inl k) s =
          let same : s.request ≡ x = some_is s.request x (sym s.at ∙ ap (slice_get taken) k.1 ∙ at) in
          record {
            request = reply;
            at = set_same taken i j reply k.1 (slice_get_within taken i x at);
            passes = ap (λ (u : Taken). same_asker u.asker a) (sym same) ∙ s.passes;
          }
      go (inr k) s = record { request = s.request; at = set_other taken i j reply k.1 ∙ s.at; passes = s.passes }

  transaction_replied : AreIndexed taken f g → slice_get taken i ≡ Some x → IsForgotten → (j : ℕ) (z : Taken) (n : ℕ) → slice_get replied j ≡ Some z → is_bound_to n z.outcome ≡ true → g2 n ≡ Some j
  transaction_replied h at forgot j z n there it = go (eqb_tells j i)
    where
      other : (j ≡ i → ⊥) → g n ≡ Some j → (is_bound_to n x.outcome ≡ true) ⊎ (is_bound_to n x.outcome ≡ false) → g2 n ≡ Some j
      other k e (inl its) = absurd (k (some_is j i (sym e ∙ h.transaction i x n at its)))
      other k e (inr its) = still forgot n its ∙ e

      go : ((j == i) ≡ true) × (j ≡ i) ⊎ ((j == i) ≡ false) × (j ≡ i → ⊥) → g2 n ≡ Some j
      go (inl k) =
          let same : reply ≡ z = some_is reply z (sym (set_same taken i j reply k.1 (slice_get_within taken i x at)) ∙ there) in
          absurd (let wrong : false ≡ true = ap (λ (u : Taken). is_bound_to n u.outcome) same ∙ it in cc)
      go (inr k) = other k.1 (h.transaction j z n (sym (set_other taken i j reply k.1) ∙ there) it) (is_or (is_bound_to n x.outcome))

  transaction_stands_replied : AreIndexed taken f g → slice_get taken i ≡ Some x → IsForgotten → (n j : ℕ) → g2 n ≡ Some j → StandsInPlace replied (λ u. is_bound_to n u.outcome) j
  transaction_stands_replied h at forgot n j e = go (is_or (is_bound_to n x.outcome))
    where
      there : is_bound_to n x.outcome ≡ false → StandsInPlace taken (λ u. is_bound_to n u.outcome) j → ((j == i) ≡ true) × (j ≡ i) ⊎ ((j == i) ≡ false) × (j ≡ i → ⊥) → StandsInPlace replied (λ u. is_bound_to n u.outcome) j
      there its s (inl k) =
          let same : s.request ≡ x = some_is s.request x (sym s.at ∙ ap (slice_get taken) k.1 ∙ at) in
          absurd (let wrong : true ≡ false = sym s.passes ∙ ap (λ (u : Taken). is_bound_to n u.outcome) same ∙ its in cc)
      there its s (inr k) = record { request = s.request; at = set_other taken i j reply k.1 ∙ s.at; passes = s.passes }

      go : (is_bound_to n x.outcome ≡ true) ⊎ (is_bound_to n x.outcome ≡ false) → StandsInPlace replied (λ u. is_bound_to n u.outcome) j
      go (inl its) = absurd (let wrong : None ≡ Some j = sym (forgot n ∙ ap (λ c. cond c None (g n)) (number_of x.outcome n ∙ its)) ∙ e in cc)
      go (inr its) = there its (h.transaction_stands n j (sym (still forgot n its) ∙ e)) (eqb_tells j i)

  pub indexed_replied : AreIndexed taken f g → slice_get taken i ≡ Some x → IsForgotten → AreIndexed replied f g2
  indexed_replied h at forgot = record {
    asker = asker_replied h at;
    asker_stands = asker_stands_replied h at;
    transaction = transaction_replied h at forgot;
    transaction_stands = transaction_stands_replied h at forgot;
  }

-- ---- a table as it is after a call

pub place_or : (taken : List Taken) (f : Asker → Option ℕ) (g : ℕ → Option ℕ) → AreIndexed taken f g → (a : Asker) (r : Option ℕ) → r ≡ f a → MatchOption r (outcome_for taken a ≡ None) (IsPlaceOfAsker taken a)
place_or taken f g h a None e = outcome_none taken f g h a (sym e)
place_or taken f g h a (Some i) e = is_place taken f g h a i (sym e)

pub transaction_or : (taken : List Taken) (f : Asker → Option ℕ) (g : ℕ → Option ℕ) → AreIndexed taken f g → (t : ℕ) (r : Option ℕ) → r ≡ g t → MatchOption r (IsNobodys taken t) (StandsInPlace taken (λ x. is_bound_to t x.outcome))
transaction_or taken f g h t None e = λ b. unbound taken t b (λ j y there it. let wrong : None ≡ Some j = e ∙ h.transaction j y t there it in cc)
transaction_or taken f g h t (Some i) e = h.transaction_stands t i (sym e)

pub open_is : (o : Outcome) (t : ℕ) → is_bound_to t o ≡ true → o ≡ outcome.Open t
open_is (outcome.Open u) t e = ap outcome.Open (number_is u t e)
open_is (outcome.Kept b) t e = absurd (let wrong : false ≡ true = e in cc)

pub pushed_is : (taken new : List Taken) (f f2 : Asker → Option ℕ) (g g2 : ℕ → Option ℕ) (y : Taken) (n : ℕ) → new ≡ taken ++ y ∷ [] → n ≡ length taken → AreIndexed taken f g → outcome_for taken y.asker ≡ None
    → ((m : ℕ) → is_bound_to m y.outcome ≡ true → bound_to taken m ≡ None)
    → ((q : Asker) → f2 q ≡ cond (same_asker y.asker q) (Some n) (f q)) → ((m : ℕ) → g2 m ≡ cond (is_bound_to m y.outcome) (Some n) (g m)) → AreIndexed new f2 g2
pushed_is taken new f f2 g g2 y n e place h free unbound askers transactions =
    subst (λ (ts : List Taken). AreIndexed ts f2 g2) (sym e)
    (indexed_pushed taken f f2 g g2 y h free unbound
    (λ q. askers q ∙ ap (λ m. cond (same_asker y.asker q) (Some m) (f q)) place)
    (λ m. transactions m ∙ ap (λ k. cond (is_bound_to m y.outcome) (Some k) (g m)) place))

pub replied_is : (taken : List Taken) (f : Asker → Option ℕ) (g g2 : ℕ → Option ℕ) (i : ℕ) (x : Taken) (b : ReplyBody) (o : Outcome) (t : Option ℕ) → o ≡ outcome.Kept b → t ≡ open_transaction x.outcome → AreIndexed taken f g → slice_get taken i ≡ Some x
    → ((n : ℕ) → g2 n ≡ cond (is_transaction t n) None (g n)) → AreIndexed (set taken i (record { asker = x.asker; outcome = o })) f g2
replied_is taken f g g2 i x b o t e was h at forgot =
    subst (λ (p : Outcome). AreIndexed (set taken i (record { asker = x.asker; outcome = p })) f g2) (sym e)
    (indexed_replied taken f g g2 i x b h at (λ n. forgot n ∙ ap (λ u. cond (is_transaction u n) None (g n)) was))

pub same_index : (taken new : List Taken) (f f2 : Asker → Option ℕ) (g g2 : ℕ → Option ℕ) → new ≡ taken → ((a : Asker) → f2 a ≡ f a) → ((n : ℕ) → g2 n ≡ g n) → AreIndexed taken f g → AreIndexed new f2 g2
same_index taken new f f2 g g2 same e k h = record {
  asker = λ i x at. e x.asker ∙ h.asker i x (sym (ap (λ ts. slice_get ts i) same) ∙ at);
  asker_stands = λ a i at.
      let s = h.asker_stands a i (sym (e a) ∙ at) in
      record { request = s.request; at = ap (λ ts. slice_get ts i) same ∙ s.at; passes = s.passes };
  transaction = λ i x t at it. k t ∙ h.transaction i x t (sym (ap (λ ts. slice_get ts i) same) ∙ at) it;
  transaction_stands = λ t i at.
      let s = h.transaction_stands t i (sym (k t) ∙ at) in
      record { request = s.request; at = ap (λ ts. slice_get ts i) same ∙ s.at; passes = s.passes };
}

pub room_in_each : (a b c s : ℕ) → min a (min b c) ≡ s → 0 < s → (0 < a) × (0 < b) × (0 < c)
room_in_each a b c s e h = (grind (arith, nat_tests), grind (arith, nat_tests), grind (arith, nat_tests))

pub on_ok : {T E : Type 0} (r : Result T E) (P : Type 0) → OnOk r P → IsOk r → P
on_ok (Ok x) P h ok = h
on_ok (Err e) P h ok = cc ok
