-- Lines one after another.
use Rattle.std.proofs.Common.{◌≡◌, ◌<◌, ◌≤◌, ◌+◌, ◌⊎◌, inl, inr, ◌||◌, ℕ, zero, suc, Bool, true, false, List, [], ◌∷◌, ◌++◌, All, length, drop, get_or, slice_get, Some, None, Result, Ok, Err, IfOk, OnOk, refl, sym, ap, subst, ◌∙◌, arith}
use Rattle.std.specs.List.{list_any}
use Rattle.std.proofs.lemmas.List.{drop_more}
use Rattle.std.proofs.lemmas.Option.{get_or_from_slice_get, slice_get_cases, slice_get_within}
use Rattle.journal_lines.specs.declared.line.Line.{Line}

pub rest_at : (ls : List Line) (i : ℕ) (l : Line) → slice_get ls i ≡ Some l → drop i ls ≡ l ∷ drop (i + 1) ls
rest_at ls i l at = drop_more ls i l (slice_get_within ls i l at) ∙ ap (λ x. x ∷ drop (i + 1) ls) (get_or_from_slice_get ls i l l at)

any_step : (test : Line → Bool) (ls : List Line) (i : ℕ) (b : Bool) → i < length ls → ((l : Line) → slice_get ls i ≡ Some l → b ≡ test l) → list_any test (drop i ls) ≡ (b || list_any test (drop (i + 1) ls))
any_step test ls i b within tells = go (slice_get_cases ls i).1
  where
    go : ((x : Line) × (i < length ls) × (slice_get ls i ≡ Some x) × (get_or ls i x ≡ x)) ⊎ ((length ls ≤ i) × (slice_get ls i ≡ None)) → list_any test (drop i ls) ≡ (b || list_any test (drop (i + 1) ls))
    go (inl h) =
        ap (list_any test) (rest_at ls i h.0 h.2)
        ∙ ap (λ c. c || list_any test (drop (i + 1) ls)) (sym (tells h.0 h.2))
    go (inr h) = absurd (omega (arith, within, h.0))

pub any_here : (test : Line → Bool) (ls : List Line) (i : ℕ) (b : Bool) → i < length ls → ((l : Line) → slice_get ls i ≡ Some l → b ≡ test l) → b ≡ true → list_any test (drop i ls) ≡ list_any test ls → true ≡ list_any test ls
any_here test ls i b within tells e so_far =
    sym (sym so_far ∙ any_step test ls i b within tells ∙ ap (λ c. c || list_any test (drop (i + 1) ls)) e)

pub any_on : (test : Line → Bool) (ls : List Line) (i : ℕ) (b : Bool) → i < length ls → ((l : Line) → slice_get ls i ≡ Some l → b ≡ test l) → b ≡ false → list_any test (drop i ls) ≡ list_any test ls → list_any test (drop (i + 1) ls) ≡ list_any test ls
any_on test ls i b within tells e so_far =
    sym (any_step test ls i b within tells ∙ ap (λ c. c || list_any test (drop (i + 1) ls)) e) ∙ so_far

pub there : (ls : List Line) (i : ℕ) → i < length ls → slice_get ls i ≡ None → ⊥
there ls i within e = go (slice_get_cases ls i).1
  where
    go : ((x : Line) × (i < length ls) × (slice_get ls i ≡ Some x) × (get_or ls i x ≡ x)) ⊎ ((length ls ≤ i) × (slice_get ls i ≡ None)) → ⊥
    go (inl h) = let wrong : Some h.0 ≡ None = sym h.2 ∙ e in cc
    go (inr h) = omega (arith, within, h.0)

pub none_left : {X : Type 0} (xs : List X) → length xs ≡ 0 → xs ≡ []
none_left [] e = refl
none_left (x ∷ xs) e = absurd (omega (arith, e))

-- ---- answers

pub if_ok : {T E : Type 0} (r : Result T E) (a b : T) → a ≡ b → IfOk r (λ x. x ≡ a) → IfOk r (λ x. x ≡ b)
if_ok {T} r a b e h = subst (λ (y : T). IfOk r (λ x. x ≡ y)) e h

pub on_ok : {T E : Type 0} (r : Result T E) (P Q : Type 0) → (P → Q) → OnOk r P → OnOk r Q
on_ok (Ok x) P Q f h = f h
on_ok (Err e) P Q f h = h

-- ---- what holds of all

all_head : {X : Type 0} (P : X → Type 0) (x : X) (xs : List X) → All P (x ∷ xs) → P x
all_head P x xs h = h zero x (omega arith)

all_tail : {X : Type 0} (P : X → Type 0) (x : X) (xs : List X) → All P (x ∷ xs) → All P xs
all_tail P x xs h k d lt = h (suc k) d (omega arith)

all_more : {X : Type 0} (P : X → Type 0) (x : X) (xs : List X) → P x → All P xs → All P (x ∷ xs)
all_more P x xs p h zero d lt = p
all_more P x xs p h (suc k) d lt = h k d (omega arith)

pub all_front : {X : Type 0} (P : X → Type 0) (xs ys : List X) → All P (xs ++ ys) → All P xs
all_front P [] ys h = λ k d lt. absurd (omega (arith, lt))
all_front P (x ∷ xs) ys h = all_more P x xs (all_head P x (xs ++ ys) h) (all_front P xs ys (all_tail P x (xs ++ ys) h))

pub all_behind : {X : Type 0} (P : X → Type 0) (xs ys : List X) → All P (xs ++ ys) → All P ys
all_behind P [] ys h = h
all_behind P (x ∷ xs) ys h = all_behind P xs ys (all_tail P x (xs ++ ys) h)
