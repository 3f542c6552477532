-- What the answer to a push says of the bytes.
use Rattle.std.specs.Prelude.{◌≡◌, ℕ, Bool, true, false, List, ◌++◌, take, Option, Some, None}
use Rattle.byte_ends.specs.Source.{CountFits}
use Rattle.byte_ends.specs.declared.sink.Pushed.{Pushed}
use Rattle.byte_ends.specs.declared.sink.Pushed.TheVariants.{Took, Failed}

-- how many bytes were taken
abbrev pub pushed_count : Pushed → ℕ
pushed_count (Took n) = n
pushed_count Failed = 0

-- whether it was a fault
abbrev pub push_failed : Pushed → Bool
push_failed (Took n) = false
push_failed Failed = true

-- no more bytes than the piece has, and some where it has any
abbrev pub PushFits : Pushed → ℕ → Type 0
PushFits (Took n) size = CountFits n size
PushFits Failed size = Unit {0}

-- a sink that tells what it took has added the bytes taken at the end
abbrev pub Pushes : Option (List ℕ) → Option (List ℕ) → Pushed → List ℕ → Type 0
Pushes None new result bytes = Unit {0}
Pushes (Some old) new result bytes = new ≡ Some (old ++ take (pushed_count result) bytes)
