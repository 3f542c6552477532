-- Counts that a step raises by one.
use Rattle.std.specs.Prelude.{ℕ}

-- the greatest count
abbrev pub greatest_count : ℕ
greatest_count = 4294967295
