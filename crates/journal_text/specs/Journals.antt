-- Journals, and how long they may be.
use Rattle.std.specs.Prelude.{ℕ, ◌≤◌, List, length, refl}
use Rattle.std.specs.Coded.{Coded, code_by, coded×, coded_list, coded_ℕ}
use Rattle.journal_lines.specs.declared.line.Line.{Line}
use Rattle.journal_text.specs.Text.{text}

-- the most lines that a journal has
abbrev pub line_limit : ℕ
line_limit = 2000000

-- the most bytes that the text of a journal has, with its line feeds
abbrev pub text_limit : ℕ
text_limit = 536870912

-- the lines pass neither limit of a journal
pub record IsWithin (lines : List Line) : Type 0 where
  pub lines_fit : length lines ≤ line_limit
  pub text_fits : length (text lines) ≤ text_limit

-- what a caller sees of a journal
pub record Contents : Type 0 where
  pub lines : List Line
  -- how many lines more there is room for already
  pub spare : ℕ

abbrev pub contents_code : Coded Line → Coded Contents
contents_code line =
    code_by (List Line × ℕ) (coded× (coded_list line) coded_ℕ) (λ c. (c.lines, c.spare))
    (λ p. record { lines = p.0; spare = p.1 }) (λ _. refl)
