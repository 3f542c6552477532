-- Texts cut at a byte.
use Rattle.std.proofs.Common.{◌≡◌, ℕ, ◌+◌, ◌≤◌, ◌<◌, Bool, true, false, cond, not, suc, List, [], ◌∷◌, length, refl, sym, ◌∙◌, arith, ◌==◌, ◌||◌}
use Rattle.std.specs.List.{slice_split, position_or_len, onto_first, list_any}
use Rattle.std.proofs.lemmas.List.Splits.{slice_split_first}
use Rattle.script_lang.specs.Reading.{CutAt}

-- what is cut off is the first part
pub cut_off : (byte : ℕ) (text before behind : List ℕ) → CutAt byte text before behind → slice_split (λ b. b == byte) text ≡ before ∷ slice_split (λ b. b == byte) behind
cut_off byte text before behind c =
    slice_split_first _ text 0 c.within ∙ (λ i. sym c.front i ∷ slice_split (λ b. b == byte) (sym c.back i))

sole_by : (byte x : ℕ) (xs : List ℕ) (t : Bool) → (x == byte) ≡ t
    → suc (length xs) ≤ cond (not (x == byte)) (1 + position_or_len (λ b. b == byte) xs) 0
    → (length xs ≤ position_or_len (λ b. b == byte) xs → slice_split (λ b. b == byte) xs ≡ xs ∷ [])
    → cond (x == byte) ([] ∷ slice_split (λ b. b == byte) xs) (onto_first x (slice_split (λ b. b == byte) xs)) ≡ (x ∷ xs) ∷ []
sole_by byte x xs true e h rest = let k : suc (length xs) ≤ 0 = rw e at h in absurd (omega arith)
sole_by byte x xs false e h rest =
    let k : suc (length xs) ≤ 1 + position_or_len (λ b. b == byte) xs = rw e at h in
    rw (e, rest (omega arith)) refl

-- without such a byte the text is the one part
pub sole_part : (byte : ℕ) (xs : List ℕ) → length xs ≤ position_or_len (λ b. b == byte) xs → slice_split (λ b. b == byte) xs ≡ xs ∷ []
sole_part byte [] h = refl
sole_part byte (x ∷ xs) h = sole_by byte x xs _ refl h (λ k. sole_part byte xs k)

-- ---- whether there is such a byte

any_by : (byte x : ℕ) (xs : List ℕ) (t : Bool) → (x == byte) ≡ t
    → (position_or_len (λ b. b == byte) xs < length xs → list_any (λ b. b == byte) xs ≡ true)
    → cond (not (x == byte)) (1 + position_or_len (λ b. b == byte) xs) 0 < suc (length xs)
    → ((x == byte) || list_any (λ b. b == byte) xs) ≡ true
any_by byte x xs true e rest h = rw e refl
any_by byte x xs false e rest h =
    let k : 1 + position_or_len (λ b. b == byte) xs < suc (length xs) = rw e at h in
    rw e (rest (omega arith))

pub any_within : (byte : ℕ) (xs : List ℕ) → position_or_len (λ b. b == byte) xs < length xs → list_any (λ b. b == byte) xs ≡ true
any_within byte [] h = absurd (omega arith)
any_within byte (x ∷ xs) h = any_by byte x xs _ refl (λ k. any_within byte xs k) h

none_by : (byte x : ℕ) (xs : List ℕ) (t : Bool) → (x == byte) ≡ t
    → (length xs ≤ position_or_len (λ b. b == byte) xs → list_any (λ b. b == byte) xs ≡ false)
    → suc (length xs) ≤ cond (not (x == byte)) (1 + position_or_len (λ b. b == byte) xs) 0
    → ((x == byte) || list_any (λ b. b == byte) xs) ≡ false
none_by byte x xs true e rest h = let k : suc (length xs) ≤ 0 = rw e at h in absurd (omega arith)
none_by byte x xs false e rest h =
    let k : suc (length xs) ≤ 1 + position_or_len (λ b. b == byte) xs = rw e at h in
    rw e (rest (omega arith))

pub none_within : (byte : ℕ) (xs : List ℕ) → length xs ≤ position_or_len (λ b. b == byte) xs → list_any (λ b. b == byte) xs ≡ false
none_within byte [] h = refl
none_within byte (x ∷ xs) h = none_by byte x xs _ refl (λ k. none_within byte xs k) h
