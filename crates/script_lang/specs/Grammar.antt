-- Scripts as a function of their bytes. A script is lines, and what a line says depends on the lines before it.
use Rattle.std.specs.Prelude.{ℕ, ◌+◌, ◌&&◌, not, if◌then◌else◌, List, [], ◌∷◌, ◌++◌, length, Option, Some, None, Result, Ok, Err}
use Rattle.std.specs.Str.{is_utf8}
use Rattle.script_lang.specs.declared.before.Before.{Before}
use Rattle.script_lang.specs.declared.fault.Cause.{Cause}
use Rattle.script_lang.specs.declared.fault.Cause.TheVariants.{BadUtf8, UnknownWord, NotBuilt, HeaderLate}
use Rattle.script_lang.specs.declared.script.Script.{Script}
use Rattle.script_lang.specs.declared.lines.Line.{Line}
use Rattle.script_lang.specs.declared.lines.Line.TheVariants as line
use Rattle.script_lang.specs.declared.words.Word.{Word}
use Rattle.script_lang.specs.declared.words.Word.TheVariants as word
use Rattle.script_lang.specs.Before.{before_next}
use Rattle.script_lang.specs.Forms.{header_line, command_line}
use Rattle.script_lang.specs.Layout.{lines_of, line_fields, is_passed_over}
use Rattle.script_lang.specs.Outcomes.{and_then, map_ok}
use Rattle.script_lang.specs.Words.{word_of, is_header_word, is_served}

-- why bytes are no script: the first bad line, counted from 1, and what is wrong with it
pub record Fault : Type 0 where
  pub line : ℕ
  pub cause : Cause

-- ---- a line

-- what a line of that word says
abbrev pub line_of_word : Before → Word → List (List ℕ) → Result Line Cause
line_of_word before (word.Header w) fields =
    map_ok (λ said. line.Header said) (header_line before w fields)
line_of_word before (word.Command w) fields =
    map_ok (λ said. line.Command said) (command_line before w fields)

-- the word where a line of it may stand: it is served, and a header line stands before the commands
abbrev pub word_standing : Before → Option Word → Result Word Cause
word_standing before None = Err UnknownWord
word_standing before (Some w) =
    if not (is_served w (length before.nodes)) then Err NotBuilt
    else if is_header_word w && before.has_commands then Err HeaderLate
    else Ok w

-- the word that the first field is
abbrev pub known_word : Before → List ℕ → Result Word Cause
known_word before first = word_standing before (word_of before.version first)

abbrev pub line_of_fields : Before → List (List ℕ) → Result Line Cause
line_of_fields before [] = Ok line.Nothing
line_of_fields before (first ∷ fields) =
    and_then (known_word before first) (λ w. line_of_word before w fields)

-- what a line says after the lines before it: nothing where it is passed over, whatever its bytes
abbrev pub line_of : Before → List ℕ → Result Line Cause
line_of before text =
    if is_passed_over (line_fields text) then Ok line.Nothing
    else if not (is_utf8 text) then Err BadUtf8
    else line_of_fields before (line_fields text)

-- ---- all lines

-- what the first line says that isn't passed over; nothing, where all are
abbrev pub first_said : List (List ℕ) → Result Line Cause
first_said [] = Ok line.Nothing
first_said (text ∷ texts) =
    if is_passed_over (line_fields text) then first_said texts
    else line_of (before_next [] []) text

-- the script with what one line more says
abbrev pub with_line : Script → Line → Script
with_line script line.Nothing = script
with_line script (line.Header said) = record script { header = script.header ++ said ∷ [] }
with_line script (line.Command said) = record script { commands = script.commands ++ said ∷ [] }

-- the script with one line more
abbrev pub script_after : Script → List ℕ → Result Script Cause
script_after script text =
    map_ok (with_line script) (line_of (before_next script.header script.commands) text)

-- the script of the lines from this one on, behind what stands before; the first bad line counts
abbrev pub script_from : ℕ → Script → List (List ℕ) → Result Script Fault
script_from line script [] = Ok script
script_from line script (text ∷ texts) =
    elim (script_after script text) [
      | Ok longer ↦ script_from (line + 1) longer texts
      | Err cause ↦ Err (record { line = line; cause = cause })
    ]

abbrev pub empty_script : Script
empty_script = record { header = []; commands = [] }

-- the script that the bytes are, or the first bad line and its cause
abbrev pub script_of : List ℕ → Result Script Fault
script_of bytes = script_from 1 empty_script (lines_of bytes)
