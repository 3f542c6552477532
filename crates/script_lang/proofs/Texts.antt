-- What a line says, by its first field.
use Rattle.std.proofs.Common.{◌≡◌, ℕ, Bool, true, false, cond, not, List, ◌∷◌, Result, Ok, Err, refl, sym, ap, ◌∙◌, subst}
use Rattle.std.specs.Str.{IsUtf8, is_utf8}
use Rattle.std.proofs.lemmas.Str.{IsUtf8-from_is_utf8, is_utf8-from_IsUtf8}
use Rattle.script_lang.specs.declared.before.Before.{Before}
use Rattle.script_lang.specs.declared.fault.Cause.{Cause}
use Rattle.script_lang.specs.declared.fault.Cause.TheVariants.{BadUtf8}
use Rattle.script_lang.specs.declared.fault.LineFault.{LineFault}
use Rattle.script_lang.specs.declared.lines.Line.{Line}
use Rattle.script_lang.specs.declared.lines.Line.TheVariants.{Nothing}
use Rattle.script_lang.specs.declared.words.Word.{Word}
use Rattle.script_lang.specs.Grammar.{line_of, line_of_fields, line_of_word, known_word}
use Rattle.script_lang.specs.Layout.{line_fields, is_comment, is_passed_over}
use Rattle.script_lang.specs.Outcomes.{and_then}
use Rattle.script_lang.specs.Reading.{ReadsLine}

-- a line that isn't passed over begins with this field
pub record BeginsWith (text first : List ℕ) (rest : List (List ℕ)) : Type 0 where
  pub fields : line_fields text ≡ first ∷ rest
  pub spoken : is_comment first ≡ false

by_parts : Before → List (List ℕ) → Bool → Result Line Cause
by_parts before fields utf8 = cond (is_passed_over fields) (Ok Nothing) (cond (not utf8) (Err BadUtf8) (line_of_fields before fields))

in_parts : (before : Before) (text first : List ℕ) (rest : List (List ℕ)) (utf8 : Bool) → BeginsWith text first rest → is_utf8 text ≡ utf8
    → line_of before text ≡ cond (not utf8) (Err BadUtf8) (line_of_fields before (first ∷ rest))
unfolding by_parts
in_parts before text first rest utf8 b u =
    let e = b.fields in
    let whole : by_parts before (line_fields text) (is_utf8 text) ≡ by_parts before (first ∷ rest) utf8 = λ i. by_parts before (e i) (u i) in
    whole ∙ ap (λ t. cond t (Ok Nothing) (cond (not utf8) (Err BadUtf8) (line_of_fields before (first ∷ rest)))) b.spoken

refuted : (bs : List ℕ) (t : Bool) → is_utf8 bs ≡ t → (IsUtf8 bs → ⊥) → is_utf8 bs ≡ false
refuted bs true e bad = absurd (bad (IsUtf8-from_is_utf8 bs e))
refuted bs false e bad = e

pub bad_text : (before : Before) (text first : List ℕ) (rest : List (List ℕ)) → BeginsWith text first rest → (IsUtf8 text → ⊥) → line_of before text ≡ Err BadUtf8
bad_text before text first rest b bad = in_parts before text first rest false b (refuted text (is_utf8 text) refl bad)

pub good_text : (before : Before) (text first : List ℕ) (rest : List (List ℕ)) → BeginsWith text first rest → IsUtf8 text
    → line_of before text ≡ and_then (known_word before first) (λ w. line_of_word before w rest)
good_text before text first rest b good = in_parts before text first rest true b (is_utf8-from_IsUtf8 text good)

pub no_word : (before : Before) (text first : List ℕ) (rest : List (List ℕ)) (cause : Cause) → BeginsWith text first rest → IsUtf8 text → Err cause ≡ known_word before first
    → line_of before text ≡ Err cause
no_word before text first rest cause b good e = good_text before text first rest b good ∙ ap (λ r. and_then r (λ w. line_of_word before w rest)) (sym e)

pub a_word : (before : Before) (text first : List ℕ) (rest : List (List ℕ)) (w : Word) (r : Result Line LineFault) → BeginsWith text first rest → IsUtf8 text → Ok w ≡ known_word before first
    → ReadsLine r (line_of_word before w rest) → ReadsLine r (line_of before text)
a_word before text first rest w r b good e said =
    let due : line_of_word before w rest ≡ line_of before text =
    sym (good_text before text first rest b good ∙ ap (λ k. and_then k (λ w. line_of_word before w rest)) (sym e)) in
    subst (λ (d : Result Line Cause). ReadsLine r d) due said
