-- The lines of a script, read one after the other.
use Rattle.std.proofs.Common.{◌≡◌, ℕ, ◌+◌, ◌-◌, ◌≤◌, Bool, true, false, cond, List, [], ◌∷◌, length, take, Result, Ok, Err, refl, sym, ap, ◌∙◌, arith, subst, ◌==◌, length-drop, length-take, suc, ◌++◌}
use Rattle.std.proofs.lemmas.Bool.{eqb-true}
use Rattle.std.specs.List.{slice_split, position_or_len, onto_first}
use Rattle.script_lang.specs.declared.fault.Cause.{Cause}
use Rattle.script_lang.specs.declared.fault.ScriptFault.{ScriptFault}
use Rattle.script_lang.specs.declared.fault.ScriptFault.TheVariants.{At, NoMemory}
use Rattle.script_lang.specs.declared.script.Script.{Script}
use Rattle.script_lang.specs.Before.{before_next}
use Rattle.script_lang.specs.Grammar.{Fault, line_of, script_from, script_after, with_line}
use Rattle.script_lang.specs.Layout.{ended, lines_of, without_return, ends_in_return}
use Rattle.script_lang.specs.Outcomes.{map_ok}
use Rattle.script_lang.specs.Reading.{CutAt, Refuses, RefusesAt}
use Rattle.script_lang.proofs.Parts.{cut_off, sole_part}

-- ---- lines

abbrev IsFull : List (List ℕ) → Type 0
IsFull [] = ⊥
IsFull (part ∷ parts) = Unit {0}

full_onto : (x : ℕ) (parts : List (List ℕ)) → IsFull (onto_first x parts)
full_onto x [] = tt
full_onto x (part ∷ parts) = tt

full : (xs : List ℕ) → IsFull (slice_split (λ b. b == 10) xs)
full [] = tt
full (x ∷ xs) = elim (x == 10) as (λ t. IsFull (cond t ([] ∷ slice_split (λ b. b == 10) xs) (onto_first x (slice_split (λ b. b == 10) xs)))) [ true ↦ tt | false ↦ full_onto x (slice_split (λ b. b == 10) xs) ]

ended_then : (text : List ℕ) (parts : List (List ℕ)) → IsFull parts → ended (text ∷ parts) ≡ without_return text ∷ ended parts
ended_then text [] f = absurd f
ended_then text (part ∷ parts) f = refl

pub next_line : (bytes text behind : List ℕ) → CutAt 10 bytes text behind → lines_of bytes ≡ without_return text ∷ lines_of behind
next_line bytes text behind c = ap ended (cut_off 10 bytes text behind c) ∙ ended_then text (slice_split (λ b. b == 10) behind) (full behind)

pub last_line : (bytes : List ℕ) → length bytes ≤ position_or_len (λ b. b == 10) bytes → lines_of bytes ≡ bytes ∷ []
last_line bytes none = ap ended (sole_part 10 bytes none)

pub shorter : (bytes text behind : List ℕ) → CutAt 10 bytes text behind → length behind + 1 ≤ length bytes
shorter bytes text behind c =
    let e : length behind ≡ length bytes - (position_or_len (λ b. b == 10) bytes + 1) = ap length c.back ∙ length-drop _ _ in
    let within = c.within in
    omega arith

without_by : (text : List ℕ) (t : Bool) → length (cond t (take (length text - 1) text) text) ≤ length text
without_by text true = omega (arith, length-take (length text - 1) text)
without_by text false = omega arith

-- no line is longer than the script
pub line_short : (bytes text behind line : List ℕ) → CutAt 10 bytes text behind → line ≡ without_return text → length line ≤ length bytes
line_short bytes text behind line c e =
    let front : length text ≤ length bytes = omega (arith, ap length c.front, length-take (position_or_len (λ b. b == 10) bytes) bytes) in
    let kept : length line ≤ length text = subst (λ (x : List ℕ). length x ≤ length text) (sym e) (without_by text (ends_in_return text)) in
    omega (arith, front, kept)

-- ---- the script from a line on

goes_on : (line : ℕ) (script longer : Script) (text : List ℕ) (texts : List (List ℕ)) (r : Result Script Cause) → r ≡ Ok longer → script_after script text ≡ r
    → script_from line script (text ∷ texts) ≡ script_from (line + 1) longer texts
goes_on line script longer text texts r e same =
    ap (λ (x : Result Script Cause). elim x [ Ok s ↦ script_from (line + 1) s texts | Err cause ↦ Err (record { line = line; cause = cause }) ]) (same ∙ e)

pub one_more : (line : ℕ) (script longer : Script) (bytes text behind taken : List ℕ) (all : Result Script Fault) → CutAt 10 bytes text behind → taken ≡ without_return text
    → script_from line script (lines_of bytes) ≡ all → script_after script taken ≡ Ok longer → script_from (line + 1) longer (lines_of behind) ≡ all
one_more line script longer bytes text behind taken all c t so_far e =
    sym (ap (script_from line script) (next_line bytes text behind c)
    ∙ goes_on line script longer (without_return text) (lines_of behind) (script_after script taken) e (ap (script_after script) (sym t))) ∙ so_far

pub one_bad : (line : ℕ) (script : Script) (bytes text behind taken : List ℕ) (cause : Cause) (all : Result Script Fault) → CutAt 10 bytes text behind → taken ≡ without_return text
    → script_from line script (lines_of bytes) ≡ all → script_after script taken ≡ Err cause → all ≡ Err (record { line = line; cause = cause })
one_bad line script bytes text behind taken cause all c t so_far e =
    sym so_far ∙ ap (script_from line script) (next_line bytes text behind c)
    ∙ ap (λ (x : Result Script Cause). elim x [ Ok s ↦ script_from (line + 1) s (lines_of behind) | Err cause ↦ Err (record { line = line; cause = cause }) ]) (ap (script_after script) (sym t) ∙ e)

pub refused : (line : ℕ) (script : Script) (bytes text behind taken : List ℕ) (fault : ScriptFault) (all : Result Script Fault) → CutAt 10 bytes text behind → taken ≡ without_return text
    → script_from line script (lines_of bytes) ≡ all → RefusesAt line (line_of (before_next script.header script.commands) taken) fault → Refuses all fault
refused line script bytes text behind taken (At place cause) all c t so_far r =
    one_bad line script bytes text behind taken cause all c t so_far (ap (map_ok (with_line script)) r.1) ∙ ap (λ (n : ℕ). Err (record { line = n; cause = cause })) (sym r.0)
refused line script bytes text behind taken NoMemory all c t so_far r = tt

pub last_refused : (line : ℕ) (script : Script) (bytes : List ℕ) (fault : ScriptFault) (all : Result Script Fault) → length bytes ≤ position_or_len (λ b. b == 10) bytes
    → script_from line script (lines_of bytes) ≡ all → RefusesAt line (line_of (before_next script.header script.commands) bytes) fault → Refuses all fault
last_refused line script bytes (At place cause) all none so_far r =
    sym so_far ∙ ap (script_from line script) (last_line bytes none)
    ∙ ap (λ (x : Result Script Cause). elim x [ Ok s ↦ script_from (line + 1) s [] | Err cause ↦ Err (record { line = line; cause = cause }) ]) (ap (map_ok (with_line script)) r.1)
    ∙ ap (λ (n : ℕ). Err (record { line = n; cause = cause })) (sym r.0)
last_refused line script bytes NoMemory all none so_far r = tt

pub last_read : (line : ℕ) (script longer : Script) (bytes : List ℕ) (all : Result Script Fault) → length bytes ≤ position_or_len (λ b. b == 10) bytes
    → script_from line script (lines_of bytes) ≡ all → script_after script bytes ≡ Ok longer → all ≡ Ok longer
last_read line script longer bytes all none so_far e =
    sym so_far ∙ ap (script_from line script) (last_line bytes none)
    ∙ ap (λ (x : Result Script Cause). elim x [ Ok s ↦ script_from (line + 1) s [] | Err cause ↦ Err (record { line = line; cause = cause }) ]) e

pub nothing_left : (script : Script) (bytes : List ℕ) → (length bytes == 0) ≡ true → script_after script bytes ≡ Ok script
nothing_left script [] e = refl
nothing_left script (b ∷ bytes) e = let none : suc (length bytes) ≡ 0 = eqb-true _ _ e in absurd (omega (arith, none))

pub after_feed : (text rest : List ℕ) → slice_split (λ b. b == 10) (text ++ 10 ∷ rest) ≡ text ∷ slice_split (λ b. b == 10) rest → lines_of (text ++ 10 ∷ rest) ≡ without_return text ∷ lines_of rest
after_feed text rest e = ap ended e ∙ ended_then text (slice_split (λ b. b == 10) rest) (full rest)
