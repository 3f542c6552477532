-- What a line that was read says.
use Rattle.std.proofs.Common.{◌≡◌, ℕ, Bool, true, false, cond, not, ◌&&◌, List, [], ◌∷◌, length, Option, Some, None, Ok, Err, refl, sym, ap, ◌∙◌, subst}
use Rattle.std.specs.Str.{is_utf8}
use Rattle.script_lang.specs.declared.before.Before.{Before}
use Rattle.script_lang.specs.declared.fault.Cause.{Cause}
use Rattle.script_lang.specs.declared.fault.Cause.TheVariants.{BadUtf8, NotBuilt, HeaderLate}
use Rattle.script_lang.specs.declared.lines.Line.{Line}
use Rattle.script_lang.specs.declared.lines.Line.TheVariants as line
use Rattle.script_lang.specs.declared.script.Command.{Command}
use Rattle.script_lang.specs.declared.script.HeaderLine.{HeaderLine}
use Rattle.script_lang.specs.declared.words.Word.{Word}
use Rattle.script_lang.specs.declared.words.Word.TheVariants as kind
use Rattle.script_lang.specs.declared.words.CommandWord.{CommandWord}
use Rattle.script_lang.specs.Forms.{header_line, command_line}
use Rattle.script_lang.specs.Grammar.{line_of, line_of_fields, line_of_word, known_word, word_standing, script_after, with_line}
use Rattle.script_lang.specs.Layout.{line_fields, is_passed_over}
use Rattle.script_lang.specs.Outcomes.{map_ok}
use Rattle.script_lang.specs.declared.script.Script.{Script}
use Rattle.script_lang.specs.Before.{MayDeclare, before_next}
use Rattle.script_lang.specs.Reading.{MayAdd}
use Rattle.script_lang.specs.Words.{word_of, is_served, is_header_word}
use Rattle.script_lang.proofs.Groups.{ok_inside, from_map, from_then}
use Rattle.script_lang.proofs.Ranges.{IsFine, fine_header}

-- a command that was read: its word is served, and its fields are some of the line's
pub record IsRead (before : Before) (text : List ℕ) (said : Command) : Type 0 where
  pub first : List ℕ
  pub fields : List (List ℕ)
  pub of_line : line_fields text ≡ first ∷ fields
  pub word : CommandWord
  pub served : is_served (kind.Command word) (length before.nodes) ≡ true
  pub read : command_line before word fields ≡ Ok said

-- a header line stands before all commands
pub record IsHeader (before : Before) (said : HeaderLine) : Type 0 where
  pub fine : IsFine before said
  pub first : before.has_commands ≡ false

abbrev pub IsSaid : Before → List ℕ → Line → Type 0
IsSaid before text line.Nothing = Unit {0}
IsSaid before text (line.Header said) = IsHeader before said
IsSaid before text (line.Command said) = IsRead before text said

pub record Stands (before : Before) (w : Word) : Type 0 where
  pub served : is_served w (length before.nodes) ≡ true
  pub first : (is_header_word w && before.has_commands) ≡ false

stands_by : (before : Before) (w x : Word) (s h : Bool) → is_served w (length before.nodes) ≡ s → (is_header_word w && before.has_commands) ≡ h
    → cond (not s) (Err NotBuilt) (cond h (Err HeaderLate) (Ok w)) ≡ Ok x → (w ≡ x) × Stands before w
stands_by before w x true true s h e = cc
stands_by before w x true false s h e = (ok_inside w x (Ok w) refl e, record { served = s; first = h })
stands_by before w x false h0 s h e = cc

stands : (before : Before) (o : Option Word) (x : Word) → word_standing before o ≡ Ok x
    → Stands before x
stands before None x e = cc
stands before (Some w) x e =
    let t = stands_by before w x (is_served w (length before.nodes)) (is_header_word w && before.has_commands) refl refl e in
    subst (Stands before) t.0 t.1

said_word : (before : Before) (text first : List ℕ) (fields : List (List ℕ)) (w : Word) (said : Line) → line_fields text ≡ first ∷ fields → Stands before w
    → line_of_word before w fields ≡ Ok said → IsSaid before text said
said_word before text first fields (kind.Header w) said f s e =
    let m = from_map (λ x. line.Header x) (header_line before w fields) said e in
    subst (IsSaid before text) (sym m.2) (record { fine = fine_header before w fields m.0 m.1; first = s.first })
said_word before text first fields (kind.Command w) said f s e =
    let m = from_map (λ x. line.Command x) (command_line before w fields) said e in
    subst (IsSaid before text) (sym m.2) (record { first = first; fields = fields; of_line = f; word = w; served = s.served; read = m.1 })

said_fields : (before : Before) (text : List ℕ) (fields : List (List ℕ)) (said : Line) → line_fields text ≡ fields → line_of_fields before fields ≡ Ok said → IsSaid before text said
said_fields before text [] said f e = subst (IsSaid before text) (ok_inside line.Nothing said (Ok line.Nothing) refl e) tt
said_fields before text (first ∷ fields) said f e =
    let t = from_then (known_word before first) (λ w. line_of_word before w fields) said e in
    said_word before text first fields t.0 said f (stands before (word_of before.version first) t.0 t.1) t.2

said_by : (before : Before) (text : List ℕ) (said : Line) (over utf8 : Bool)
    → cond over (Ok line.Nothing) (cond (not utf8) (Err BadUtf8) (line_of_fields before (line_fields text))) ≡ Ok said → IsSaid before text said
said_by before text said true utf8 e = subst (IsSaid before text) (ok_inside line.Nothing said (Ok line.Nothing) refl e) tt
said_by before text said false true e = said_fields before text (line_fields text) said refl e
said_by before text said false false e = cc

pub said : (before : Before) (text : List ℕ) (said : Line) → line_of before text ≡ Ok said → IsSaid before text said
said before text l e = said_by before text l (is_passed_over (line_fields text)) (is_utf8 text) e

-- ---- as the code cites them

pub may_add : (script : Script) (before : Before) (text : List ℕ) (l : Line) → before ≡ before_next script.header script.commands → line_of before text ≡ Ok l → MayAdd script l
may_add script before text line.Nothing b e = tt
may_add script before text (line.Header h) b e =
    let fine = (said before text (line.Header h) e).fine in
    (subst (λ (x : Before). MayDeclare x.nodes h) b fine.declares, fine.ranges)
may_add script before text (line.Command c) b e = tt

pub at_line : (script : Script) (before : Before) (text : List ℕ) (l : Line) → before ≡ before_next script.header script.commands → line_of before text ≡ Ok l → script_after script text ≡ Ok (with_line script l)
at_line script before text l b e = ap (λ x. map_ok (with_line script) (line_of x text)) (sym b) ∙ ap (map_ok (with_line script)) e

pub at_fault : (script : Script) (before : Before) (text : List ℕ) (cause : Cause) → before ≡ before_next script.header script.commands → line_of before text ≡ Err cause → script_after script text ≡ Err cause
at_fault script before text cause b e = ap (λ x. map_ok (with_line script) (line_of x text)) (sym b) ∙ ap (map_ok (with_line script)) e
