-- Texts cut into parts.
use Rattle.std.proofs.Common.{◌≡◌, ℕ, ◌+◌, ◌≤◌, Bool, true, false, cond, not, suc, List, [], ◌∷◌, length, Option, Some, None, refl, sym, ap, ◌∙◌, arith, ◌==◌}
use Rattle.std.specs.List.{slice_split, position_or_len, onto_first}
use Rattle.std.specs.Option.{is_some}
use Rattle.std.proofs.lemmas.Bool.{ne_eqb, false≢true}
use Rattle.std.proofs.lemmas.List.Splits.{slice_split_first, length-slice_split}
use denote.Ref.{Bor}
use Rattle.journal_reader.specs.Fields.{parts_of}
use Rattle.journal_reader.specs.Parts.{CutAt, parts_left}

-- what is cut off is the first part
pub cut_off : (byte : ℕ) (text before behind : List ℕ) → CutAt byte text before behind → slice_split (λ b. b == byte) text ≡ before ∷ slice_split (λ b. b == byte) behind
cut_off byte text before behind c =
    slice_split_first _ text 0 c.within ∙ (λ i. sym c.front i ∷ slice_split (λ b. b == byte) (sym c.back i))

sole_by : (byte x : ℕ) (xs : List ℕ) (t : Bool) → (x == byte) ≡ t
    → suc (length xs) ≤ cond (not (x == byte)) (1 + position_or_len (λ b. b == byte) xs) 0
    → (length xs ≤ position_or_len (λ b. b == byte) xs → slice_split (λ b. b == byte) xs ≡ xs ∷ [])
    → cond (x == byte) ([] ∷ slice_split (λ b. b == byte) xs) (onto_first x (slice_split (λ b. b == byte) xs)) ≡ (x ∷ xs) ∷ []
sole_by byte x xs true e h rest = let k : suc (length xs) ≤ 0 = rw e at h in absurd (omega arith)
sole_by byte x xs false e h rest =
    let k : suc (length xs) ≤ 1 + position_or_len (λ b. b == byte) xs = rw e at h in
    rw (e, rest (omega arith)) refl

-- without such a byte the text is the one part
pub sole_part : (byte : ℕ) (xs : List ℕ) → length xs ≤ position_or_len (λ b. b == byte) xs → slice_split (λ b. b == byte) xs ≡ xs ∷ []
sole_part byte [] h = refl
sole_part byte (x ∷ xs) h = sole_by byte x xs _ refl h (λ k. sole_part byte xs k)

some_left : (byte : ℕ) (text : List ℕ) → (length (parts_of byte text) == 0) ≡ false
some_left byte text = let count = length-slice_split (λ b. b == byte) text in ne_eqb _ _ (λ e. omega (arith, count, e))

left_by : (byte : ℕ) (rest : Option (Bor (List ℕ))) (none : Bool) → is_some rest ≡ not none → none ≡ (length (parts_left byte rest) == 0)
left_by byte None true e = refl
left_by byte None false e = absurd (false≢true e)
left_by byte (Some text) true e = absurd (false≢true (sym e))
left_by byte (Some text) false e = sym (some_left byte text.now)

-- no part is left exactly where nothing is left of the text
pub are_left : (byte : ℕ) (rest : Option (Bor (List ℕ))) (none : Bool) (parts : List (List ℕ)) → is_some rest ≡ not none → parts_left byte rest ≡ parts → none ≡ (length parts == 0)
are_left byte rest none parts e view = left_by byte rest none e ∙ ap (λ ps. length ps == 0) view
