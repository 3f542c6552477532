-- Words that ask for an audit ask for no replay.
use Rattle.std.proofs.Common.{◌≡◌, ℕ, List, [], ◌∷◌, length, map, Bool, get_or, sym, ap, ◌∙◌, arith, IsTrue}
use Rattle.std.specs.Prelude.{codes}
use Rattle.std.proofs.lemmas.Slice.Eq.{bytes_eq-Decides}
use Rattle.cluster_top.specs.declared.words.Words.{Words}
use Rattle.cluster_top.specs.Words.{Asks, nothing, summary, generate, generate_of, AskAudit, is_audit}

abbrev third : List ℕ → ℕ
third [] = 0
third (a ∷ []) = 0
third (a ∷ b ∷ []) = 0
third (a ∷ b ∷ c ∷ text) = c

-- the first letter of the first word, which stands behind two hyphens
abbrev letter : List (List ℕ) → ℕ
letter [] = 0
letter (word ∷ words) = third word

abbrev first_of : List (List ℕ) → List ℕ
first_of [] = []
first_of (word ∷ words) = word

-- the test of the one word decides
pub one_word : {A : Type 0} (text : A → List ℕ) (words : List A) (word : A) (b : Bool)
    → length words ≡ 1 → word ≡ get_or words 0 word → b ≡ is_audit (text word)
    → (IsTrue b → AskAudit (map text words)) × (AskAudit (map text words) → IsTrue b)
one_word text [] word b one first e = absurd (omega (arith, one))
one_word text (x ∷ y ∷ words) word b one first e = absurd (omega (arith, one))
one_word text (x ∷ []) word b one first e = (
  λ t. ap (λ (w : List ℕ). w ∷ [])
      (sym (ap text first) ∙ (bytes_eq-Decides (text word) (codes "--audit")).0 (sym e ∙ t)),
  λ is. e ∙ ap is_audit (ap text first ∙ ap first_of is),
)

pub audit_is_no_replay : (ws : List (List ℕ)) (w : Words) → Asks ws w → AskAudit ws → ⊥
audit_is_no_replay _ _ nothing e = cc
audit_is_no_replay _ _ (summary {ws} {w} a s) e =
    let differ : 115 ≡ 97 = ap letter e in
    omega (arith, differ)
audit_is_no_replay _ _ (generate {ws} {w} {text} {n} a none number) e =
    let differ : 103 ≡ 97 = ap letter e in
    omega (arith, differ)
audit_is_no_replay _ _ (generate_of {ws} {w} {text} {n} a none number) e =
    let differ : 103 ≡ 97 = ap letter e in
    omega (arith, differ)
