-- Which lines say something, and the first one that does.
use Rattle.std.proofs.Common.{◌≡◌, ℕ, Bool, true, false, cond, not, List, [], ◌∷◌, length, Result, Ok, Err, refl, sym, ap, ◌∙◌, subst, ◌⊎◌, inl, inr, ◌≤◌, ◌==◌}
use Rattle.std.specs.List.{position_or_len}
use Rattle.std.specs.Str.{is_utf8}
use Rattle.script_lang.specs.declared.before.Before.{Before}
use Rattle.script_lang.specs.declared.fault.Cause.{Cause}
use Rattle.script_lang.specs.declared.fault.Cause.TheVariants.{BadUtf8}
use Rattle.script_lang.specs.declared.fault.ScriptFault.{ScriptFault}
use Rattle.script_lang.specs.declared.fault.ScriptFault.TheVariants.{At, NoMemory}
use Rattle.script_lang.specs.declared.lines.Line.{Line}
use Rattle.script_lang.specs.declared.lines.Line.TheVariants as line
use Rattle.script_lang.specs.declared.script.Script.{Script}
use Rattle.script_lang.specs.declared.words.Word.{Word}
use Rattle.script_lang.specs.declared.words.Word.TheVariants as kind
use Rattle.script_lang.specs.Before.{before_next}
use Rattle.script_lang.specs.Forms.{header_line, command_line}
use Rattle.script_lang.specs.Grammar.{line_of, line_of_fields, line_of_word, known_word, script_after, with_line, empty_script, first_said}
use Rattle.script_lang.specs.Layout.{line_fields, is_passed_over, lines_of, without_return}
use Rattle.script_lang.specs.Reading.{CutAt, RefusesAt, SaysSomething}
use Rattle.script_lang.proofs.Groups.{from_map, from_then}
use Rattle.script_lang.proofs.Whole.{next_line, last_line}

-- ---- a line that isn't passed over

word_says : (before : Before) (w : Word) (fields : List (List ℕ)) (said : Line) → line_of_word before w fields ≡ Ok said → SaysSomething (Ok said)
word_says before (kind.Header w) fields said e =
    let m = from_map (λ x. line.Header x) (header_line before w fields) said e in
    subst (λ x. SaysSomething (Ok x)) (sym m.2) tt
word_says before (kind.Command w) fields said e =
    let m = from_map (λ x. line.Command x) (command_line before w fields) said e in
    subst (λ x. SaysSomething (Ok x)) (sym m.2) tt

fields_say : (before : Before) (fields : List (List ℕ)) (said : Line) → is_passed_over fields ≡ false → line_of_fields before fields ≡ Ok said → SaysSomething (Ok said)
fields_say before [] said spoken e = cc
fields_say before (first ∷ fields) said spoken e =
    let t = from_then (known_word before first) (λ w. line_of_word before w fields) said e in
    word_says before t.0 fields said t.2

says_by : (before : Before) (text : List ℕ) (said : Line) (utf8 : Bool) → is_passed_over (line_fields text) ≡ false
    → cond (not utf8) (Err BadUtf8) (line_of_fields before (line_fields text)) ≡ Ok said → SaysSomething (Ok said)
says_by before text said true spoken e = fields_say before (line_fields text) said spoken e
says_by before text said false spoken e = cc

by_parts : Before → List ℕ → Bool → Result Line Cause
by_parts before text over = cond over (Ok line.Nothing) (cond (not (is_utf8 text)) (Err BadUtf8) (line_of_fields before (line_fields text)))

pub says : (before : Before) (text : List ℕ) (said : Line) → is_passed_over (line_fields text) ≡ false → line_of before text ≡ Ok said → SaysSomething (Ok said)
unfolding by_parts
says before text said spoken e = says_by before text said (is_utf8 text) spoken (sym (ap (by_parts before text) spoken) ∙ e)

-- ---- the first line that says something

abbrev nothing_before : Before
nothing_before = before_next [] []

unspoken : (text : List ℕ) → is_passed_over (line_fields text) ≡ true → SaysSomething (line_of nothing_before text) → ⊥
unfolding by_parts
unspoken text over said = subst SaysSomething (ap (by_parts nothing_before text) over) said

first_by : (text : List ℕ) (texts : List (List ℕ)) (over : Bool) → is_passed_over (line_fields text) ≡ over → SaysSomething (line_of nothing_before text)
    → SaysSomething (cond over (first_said texts) (line_of nothing_before text))
first_by text texts true over said = absurd (unspoken text over said)
first_by text texts false over said = said

first_says : (text : List ℕ) (texts : List (List ℕ)) → SaysSomething (line_of nothing_before text) → SaysSomething (first_said (text ∷ texts))
first_says text texts said = first_by text texts (is_passed_over (line_fields text)) refl said

passed_by : (text : List ℕ) (texts : List (List ℕ)) (over : Bool) → is_passed_over (line_fields text) ≡ over → line_of nothing_before text ≡ Ok line.Nothing
    → cond over (first_said texts) (line_of nothing_before text) ≡ first_said texts
passed_by text texts true over e = refl
passed_by text texts false over e = absurd (says nothing_before text line.Nothing over e)

first_passed : (text : List ℕ) (texts : List (List ℕ)) → line_of nothing_before text ≡ Ok line.Nothing → first_said (text ∷ texts) ≡ first_said texts
first_passed text texts e = passed_by text texts (is_passed_over (line_fields text)) refl e

-- ---- as the reader goes on

-- no line has said anything yet, or the first that did was good
abbrev pub Begins : Script → List (List ℕ) → List (List ℕ) → Type 0
Begins script left all = ((script ≡ empty_script) × (first_said left ≡ first_said all)) ⊎ SaysSomething (first_said all)

begins_by : (text : List ℕ) (texts all : List (List ℕ)) (l : Line) → first_said (text ∷ texts) ≡ first_said all → line_of nothing_before text ≡ Ok l
    → Begins (with_line empty_script l) texts all
begins_by text texts all line.Nothing same e = inl (refl, sym (first_passed text texts e) ∙ same)
begins_by text texts all (line.Header said) same e = inr (subst SaysSomething same (first_says text texts (subst SaysSomething (sym e) tt)))
begins_by text texts all (line.Command said) same e = inr (subst SaysSomething same (first_says text texts (subst SaysSomething (sym e) tt)))

pub begins_on : (script longer : Script) (bytes text behind taken : List ℕ) (all : List (List ℕ)) → CutAt 10 bytes text behind → taken ≡ without_return text
    → Begins script (lines_of bytes) all → script_after script taken ≡ Ok longer → Begins longer (lines_of behind) all
begins_on script longer bytes text behind taken all c t (inr said) e = inr said
begins_on script longer bytes text behind taken all c t (inl (none, same)) e =
    let m = from_map (with_line empty_script) (line_of nothing_before taken) longer (ap (λ s. script_after s taken) (sym none) ∙ e) in
    let lines : lines_of bytes ≡ taken ∷ lines_of behind = next_line bytes text behind c ∙ ap (λ x. x ∷ lines_of behind) (sym t) in
    subst (λ s. Begins s (lines_of behind) all) (sym m.2) (begins_by taken (lines_of behind) all m.0 (ap first_said (sym lines) ∙ same) m.1)

refused_by : (line : ℕ) (script : Script) (text : List ℕ) (texts all : List (List ℕ)) (fault : ScriptFault) (answer : Result Script ScriptFault) → Begins script (text ∷ texts) all
    → RefusesAt line (line_of (before_next script.header script.commands) text) fault → answer ≡ Err fault → answer ≡ Err NoMemory → SaysSomething (first_said all)
refused_by line script text texts all fault answer (inr said) r e told = said
refused_by line script text texts all (At place cause) answer (inl (none, same)) r e told = cc
refused_by line script text texts all NoMemory answer (inl (none, same)) r e told =
    subst SaysSomething same (first_says text texts
    (subst (λ (s : Script). SaysSomething (line_of (before_next s.header s.commands) text)) none r))

pub refused_memory : (line : ℕ) (script : Script) (bytes text behind taken : List ℕ) (all : List (List ℕ)) (fault : ScriptFault) (answer : Result Script ScriptFault) → CutAt 10 bytes text behind → taken ≡ without_return text
    → Begins script (lines_of bytes) all → RefusesAt line (line_of (before_next script.header script.commands) taken) fault → answer ≡ Err fault → answer ≡ Err NoMemory
    → SaysSomething (first_said all)
refused_memory line script bytes text behind taken all fault answer c t b r e told =
    let lines : lines_of bytes ≡ taken ∷ lines_of behind = next_line bytes text behind c ∙ ap (λ x. x ∷ lines_of behind) (sym t) in
    refused_by line script taken (lines_of behind) all fault answer (subst (λ ls. Begins script ls all) lines b) r e told

pub last_refused_memory : (line : ℕ) (script : Script) (bytes : List ℕ) (all : List (List ℕ)) (fault : ScriptFault) (answer : Result Script ScriptFault) → length bytes ≤ position_or_len (λ b. b == 10) bytes
    → Begins script (lines_of bytes) all → RefusesAt line (line_of (before_next script.header script.commands) bytes) fault → answer ≡ Err fault → answer ≡ Err NoMemory
    → SaysSomething (first_said all)
last_refused_memory line script bytes all fault answer none b r e told =
    refused_by line script bytes [] all fault answer (subst (λ ls. Begins script ls all) (last_line bytes none) b) r e told
