-- The words with which lines begin, by the table of the code.
use Rattle.std.specs.Prelude.{ℕ, if◌then◌else◌, List, [], ◌∷◌, map, Option, Some, None}
use Rattle.std.specs.Str.{bytes_eq}
use Rattle.journal_reader.specs.declared.reading.word.Word.{Word}
use Rattle.journal_reader.specs.declared.reading.word.TheConstants.{WORDS}

-- the word of that text in a table
abbrev pub word_in : List (List ℕ × Word) → List ℕ → Option Word
word_in [] text = None
word_in (entry ∷ table) text = if bytes_eq entry.0 text then Some entry.1 else word_in table text

-- the word of that text
unfoldable pub parsed_word : List ℕ → Option Word
parsed_word = word_in (map (λ entry. (entry.0.now, entry.1)) WORDS)
