-- The parts of a text.
use Rattle.std.specs.Prelude.{◌≡◌, ℕ, ◌<◌, ◌==◌, List, [], length, Option, Some, None}
use Rattle.std.specs.List.{before_first, after_first, position_or_len}
use denote.Ref.{Bor}
use Rattle.journal_reader.specs.Fields.{parts_of}

-- a text is cut at the first such byte
pub record CutAt (byte : ℕ) (text before behind : List ℕ) : Type 0 where
  pub within : position_or_len (λ b. b == byte) text < length text
  pub front : before ≡ before_first (λ b. b == byte) text
  pub back : behind ≡ after_first (λ b. b == byte) text

-- the parts that aren't taken yet
abbrev pub parts_left : ℕ → Option (Bor (List ℕ)) → List (List ℕ)
parts_left byte None = []
parts_left byte (Some rest) = parts_of byte rest.now
