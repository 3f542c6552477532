-- How the bytes of a script are laid out: lines, and the fields of a line.
use Rattle.std.specs.Prelude.{ℕ, ◌-◌, ◌==◌, nat_lt, Bool, true, false, ◌||◌, if◌then◌else◌, List, [], ◌∷◌, length, take, filter, slice_index}
use Rattle.std.specs.List.{slice_split}

-- ---- lines

abbrev pub ends_in_return : List ℕ → Bool
ends_in_return text = slice_index text (length text - 1) == 13

-- what stands before a carriage return at the end, and the whole text where none stands there
abbrev pub without_return : List ℕ → List ℕ
without_return text = if ends_in_return text then take (length text - 1) text else text

-- the parts between line feeds as lines: each but the last is ended by a line feed, before which a carriage return is passed over
abbrev pub ended : List (List ℕ) → List (List ℕ)
ended [] = []
ended (text ∷ []) = text ∷ []
ended (text ∷ next ∷ texts) = without_return text ∷ ended (next ∷ texts)

-- the lines, each ended by a line feed; what stands behind the last line feed is a line too
abbrev pub lines_of : List ℕ → List (List ℕ)
lines_of bytes = ended (slice_split (λ b. b == 10) bytes)

-- ---- fields

-- a space or a tab
abbrev pub is_blank : ℕ → Bool
is_blank b = b == 32 || b == 9

abbrev pub is_some_text : List ℕ → Bool
is_some_text text = nat_lt 0 (length text)

-- the fields of a line: the longest runs of bytes other than spaces and tabs
abbrev pub line_fields : List ℕ → List (List ℕ)
line_fields line = filter is_some_text (slice_split is_blank line)

-- a comment begins with a semicolon
abbrev pub is_comment : List ℕ → Bool
is_comment [] = false
is_comment (b ∷ bytes) = b == 59

-- whether a line is passed over: it has no fields, or the first begins a comment
abbrev pub is_passed_over : List (List ℕ) → Bool
is_passed_over [] = true
is_passed_over (field ∷ fields) = is_comment field
