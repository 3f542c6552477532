-- The fields that aren't taken yet.
use Rattle.std.specs.Prelude.{ℕ, ◌<◌, ◌^◌, List, length}
use denote.Ref.{Bor}
use Rattle.script_lang.specs.Layout.{line_fields}

abbrev pub fields_left : Bor (List ℕ) → List (List ℕ)
fields_left rest = line_fields rest.now

-- so short that its bits can be counted
abbrev pub IsShort : List ℕ → Type 0
IsShort bytes = length bytes < 2 ^ 60
