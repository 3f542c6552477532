-- Transcripts, and where bytes cease to be one.
use Rattle.std.specs.Prelude.{◌≡◌, ℕ, ◌==◌, ◌+◌, ◌<◌, Bool, false, List, [], ◌∷◌, ◌++◌, length, take, All, ◌⊎◌}
use Rattle.std.specs.List.{list_any, position_or_len, after_first}
use Rattle.journal_lines.specs.declared.line.Line.{Line}
use Rattle.journal_lines.specs.Proper.{IsProper}
use Rattle.journal_text.specs.Journals.{IsWithin}
use Rattle.journal_text.specs.Text.{line_text, text}

-- the bytes are the text of the lines, whose parts are in their ranges, and which pass no limit of
-- journals
pub record IsTranscript (bytes : List ℕ) (lines : List Line) : Type 0 where
  pub text : text lines ≡ bytes
  pub proper : All IsProper lines
  pub within : IsWithin lines

-- whether there is a line feed among the bytes
abbrev pub has_feed : List ℕ → Bool
has_feed bytes = list_any (λ b. b == 10) bytes

-- the bytes are cut behind their first line feed
pub record IsCutAtFeed (bytes piece behind : List ℕ) : Type 0 where
  pub before : List ℕ
  pub ends : piece ≡ before ++ 10 ∷ []
  pub first : has_feed before ≡ false
  pub split : bytes ≡ piece ++ behind

-- the same by the first place that has one
pub record IsCutAtFirst (bytes piece behind : List ℕ) : Type 0 where
  pub within : position_or_len (λ b. b == 10) bytes < length bytes
  pub front : piece ≡ take (position_or_len (λ b. b == 10) bytes + 1) bytes
  pub back : behind ≡ after_first (λ b. b == 10) bytes

-- up to the first line feed the bytes are no line's text, or the line that they are passes a limit
-- behind these lines
pub record HasNoLine (lines : List Line) (bytes : List ℕ) : Type 0 where
  pub piece : List ℕ
  pub behind : List ℕ
  pub cut : IsCutAtFeed bytes piece behind
  pub none : (l : Line) → IsProper l → line_text l ≡ piece → ¬ IsWithin (lines ++ l ∷ [])

-- no line follows these lines in the bytes
abbrev pub IsUnreadable : List Line → List ℕ → Type 0
IsUnreadable lines bytes = (has_feed bytes ≡ false) ⊎ HasNoLine lines bytes

-- the bytes begin with lines, and what follows them, at the line of this number, from 1, is the
-- text of no line that can follow them
pub record IsFirstFault (bytes : List ℕ) (number : ℕ) : Type 0 where
  pub lines : List Line
  pub rest : List ℕ
  pub split : text lines ++ rest ≡ bytes
  pub proper : All IsProper lines
  pub within : IsWithin lines
  pub place : number ≡ length lines + 1
  pub some : 0 < length rest
  pub unreadable : IsUnreadable lines rest

-- a line is read from the bytes and added to others, and what stands behind it is left
pub record ReadsLine (old new : List Line) (bytes rest : List ℕ) : Type 0 where
  pub line : Line
  pub added : new ≡ old ++ line ∷ []
  pub proper : IsProper line
  pub within : IsWithin new
  pub split : bytes ≡ line_text line ++ rest
