-- The text of a line.
use Rattle.std.specs.Prelude.{ℕ, List, [], ◌∷◌, ◌++◌}
use Rattle.std.specs.Fmt.{decimal}
use Rattle.std.specs.List.{join_with_byte, flat_map}
use Rattle.journal_lines.specs.declared.line.Line.{Line}
use Rattle.journal_text.specs.LineFields.{fields}

-- the fields of a line with one space between two of them
abbrev pub words : Line → List ℕ
words l = join_with_byte 32 (fields l)

-- the text of a word, the number of a message and its two ends
abbrev pub message_text : List ℕ → ℕ → ℕ → ℕ → List ℕ
message_text word message from to =
    word ++ 32 ∷ decimal message ++ 32 ∷ decimal from ++ 32 ∷ decimal to

-- a line and its line feed
abbrev pub line_text : Line → List ℕ
line_text l = words l ++ 10 ∷ []

-- the text of a journal: its lines in their order
abbrev pub text : List Line → List ℕ
text ls = flat_map line_text ls
