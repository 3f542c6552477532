-- The fields of a line, taken from the left.
use Rattle.std.proofs.Common.{◌≡◌, ℕ, ◌+◌, ◌-◌, Bool, true, false, cond, not, suc, List, [], ◌∷◌, length, take, drop, Some, None, refl, sym, ap, ◌∙◌, arith, subst, ◌<◌, filter, get_or, length-drop}
use Rattle.std.proofs.lemmas.Bool.{ltb-true, ltb-false, lt-ltb}
use Rattle.std.proofs.lemmas.List.{get_or-drop, drop_all}
use Rattle.std.proofs.lemmas.List.Folds.{length-prefix_len}
use Rattle.std.proofs.lemmas.List.Quantifiers.{position-Some}
use Rattle.std.proofs.lemmas.List.Sums.{prefix_len-le-length}
use Rattle.std.specs.List.{slice_split, position, position_or_len, onto_first}
use Rattle.cluster_types.proofs.BoolFacts.{not_true}
use Rattle.script_lang.specs.Layout.{is_blank, is_some_text, line_fields}

-- ---- spaces and tabs at the front

skip_by : (x : ℕ) (xs : List ℕ) (t : Bool) → is_blank x ≡ t → line_fields xs ≡ line_fields (drop (position_or_len (λ b. not (is_blank b)) xs) xs)
    → filter is_some_text (cond t ([] ∷ slice_split is_blank xs) (onto_first x (slice_split is_blank xs)))
    ≡ line_fields (drop (cond (not (not t)) (1 + position_or_len (λ b. not (is_blank b)) xs) 0) (x ∷ xs))
skip_by x xs true e rest =
    let one : 1 + position_or_len (λ b. not (is_blank b)) xs ≡ suc (position_or_len (λ b. not (is_blank b)) xs) = omega arith in
    rest ∙ ap (λ n. line_fields (drop n (x ∷ xs))) (sym one)
skip_by x xs false e rest = ap (λ t. filter is_some_text (cond t ([] ∷ slice_split is_blank xs) (onto_first x (slice_split is_blank xs)))) (sym e)

-- they are no part of a field
pub skipped : (xs : List ℕ) → line_fields xs ≡ line_fields (drop (position_or_len (λ b. not (is_blank b)) xs) xs)
skipped [] = refl
skipped (x ∷ xs) = subst (λ t. filter is_some_text (cond t ([] ∷ slice_split is_blank xs) (onto_first x (slice_split is_blank xs)))
    ≡ line_fields (drop (cond (not (not t)) (1 + position_or_len (λ b. not (is_blank b)) xs) 0) (x ∷ xs))) refl (skip_by x xs (is_blank x) refl (skipped xs))

-- ---- the run at the front

pub record SplitsRun (xs : List ℕ) : Type 0 where
  pub more : List (List ℕ)
  pub parts : slice_split is_blank xs ≡ take (position_or_len is_blank xs) xs ∷ more
  pub rest : filter is_some_text more ≡ line_fields (drop (position_or_len is_blank xs) xs)

run_by : (x : ℕ) (xs : List ℕ) (t : Bool) → is_blank x ≡ t → SplitsRun xs → SplitsRun (x ∷ xs)
run_by x xs true e r = record {
  more = slice_split is_blank xs;
  parts = rw e refl;
  rest = rw e (rw e refl);
}
run_by x xs false e r =
    let one : 1 + position_or_len is_blank xs ≡ suc (position_or_len is_blank xs) = omega arith in record {
      more = r.more;
      parts = rw (e, one) (ap (onto_first x) r.parts);
      rest = rw (e, one) r.rest;
    }

pub run : (xs : List ℕ) → SplitsRun xs
run [] = record { more = []; parts = refl; rest = refl }
run (x ∷ xs) = run_by x xs (is_blank x) refl (run xs)

-- ---- as the code cites them

tested : {A : Type 0} (t : Bool) (n i : A) → cond t (Some n) None ≡ Some i → (t ≡ true) × (n ≡ i)
tested true n i e = (refl, cc)
tested false n i e = cc

untested : {A : Type 0} (t : Bool) (n : A) → cond t (Some n) None ≡ None → t ≡ false
untested true n e = cc
untested false n e = refl

-- a place that was found
pub found : (p : ℕ → Bool) (xs : List ℕ) (i : ℕ) → position p xs ≡ Some i → (position_or_len p xs ≡ i) × (i < length xs)
found p xs i e =
    let told = tested _ _ _ e in
    (told.1, subst (λ k. k < length xs) told.1 (ltb-true _ _ told.0))

pub unfound : (p : ℕ → Bool) (xs : List ℕ) → position p xs ≡ None → length xs ≡ position_or_len p xs
unfound p xs e =
    let high = ltb-false _ _ (untested _ _ e) in
    let low = prefix_len-le-length (λ x. not (p x)) xs in
    omega (arith, high, low)

-- without a byte that is no space or tab there are no fields
pub no_fields : (xs : List ℕ) → position (λ b. not (is_blank b)) xs ≡ None → line_fields xs ≡ []
no_fields xs e =
    skipped xs ∙ ap (λ n. line_fields (drop n xs)) (sym (unfound _ xs e)) ∙ ap line_fields (drop_all (length xs) xs (omega arith))

first_run : (text : List ℕ) → 0 < length text → is_blank (get_or text 0 0) ≡ false
    → line_fields text ≡ take (position_or_len is_blank text) text ∷ line_fields (drop (position_or_len is_blank text) text)
first_run [] some first = absurd (omega (arith, some))
first_run (x ∷ xs) some first =
    let r = run (x ∷ xs) in
    let n : ℕ = position_or_len is_blank (x ∷ xs) in
    let long : n ≡ 1 + position_or_len is_blank xs = ap (λ t. cond (not t) (1 + position_or_len is_blank xs) 0) first in
    let size : length (take n (x ∷ xs)) ≡ n = length-prefix_len (λ b. not (is_blank b)) (x ∷ xs) in
    let full : is_some_text (take n (x ∷ xs)) ≡ true = lt-ltb _ _ (omega (arith, long, size)) in
    ap (filter is_some_text) r.parts
    ∙ ap (λ t. cond t (take n (x ∷ xs) ∷ filter is_some_text r.more) (filter is_some_text r.more)) full
    ∙ ap (λ m. take n (x ∷ xs) ∷ m) r.rest

starts : (rest : List ℕ) (start : ℕ) → position (λ b. not (is_blank b)) rest ≡ Some start → is_blank (get_or (drop start rest) 0 0) ≡ false
starts rest start s =
    let at : get_or (drop start rest) 0 0 ≡ get_or rest start 0 = get_or-drop start rest 0 0 ∙ ap (λ n. get_or rest n 0) (omega arith) in
    not_true _ (ap (λ b. not (is_blank b)) at ∙ (position-Some (λ b. not (is_blank b)) rest start 0 s).1)

pub field_taken : (rest text field left : List ℕ) (start end : ℕ)
    → position (λ b. not (is_blank b)) rest ≡ Some start → text ≡ drop start rest → end ≡ position_or_len is_blank text
    → field ≡ take end text → left ≡ drop end text → line_fields rest ≡ field ∷ line_fields left
field_taken rest text field left start end s t e f l =
    let place = found _ rest start s in
    let within = place.1 in
    let size : length (drop start rest) ≡ length rest - start = length-drop start rest in
    let long : 0 < length text = subst (λ x. 0 < length x) (sym t) (omega (arith, size, within)) in
    let first : is_blank (get_or text 0 0) ≡ false = subst (λ x. is_blank (get_or x 0 0) ≡ false) (sym t) (starts rest start s) in
    skipped rest ∙ ap (λ n. line_fields (drop n rest)) place.0 ∙ ap line_fields (sym t) ∙ first_run text long first
    ∙ ap (λ n. take n text ∷ line_fields (drop n text)) (sym e)
    ∙ (λ i. sym f i ∷ line_fields (sym l i))
