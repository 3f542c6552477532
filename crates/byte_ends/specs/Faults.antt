-- The count of faults of an end.
use Rattle.std.specs.Prelude.{ℕ, ◌+◌, ◌-◌, ◌^◌, ◌<◌, Bool, min, if◌then◌else◌}

-- the last value of a count: 18,446,744,073,709,551,615
abbrev pub last_count : ℕ
last_count = 2 ^ 64 - 1

-- the count rose in a call: it is greater than it was before, or stands at its last value
abbrev pub Rose : ℕ → ℕ → Type 0
Rose before after = after < last_count → before < after

-- one more, or still the last value
abbrev pub counted : ℕ → ℕ
counted n = min (n + 1) last_count

-- one more where there was a fault
abbrev pub counted_if : Bool → ℕ → ℕ
counted_if failed n = if failed then counted n else n
