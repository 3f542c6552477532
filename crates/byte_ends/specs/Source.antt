-- What the answer to a pull says of the bytes.
use Rattle.std.specs.Prelude.{◌≡◌, ℕ, ◌<◌, ◌≤◌, Bool, true, false, List, [], ◌++◌, length, take, Option, Some, None}
use Rattle.byte_ends.specs.declared.source.Pulled.{Pulled}
use Rattle.byte_ends.specs.declared.source.Pulled.TheVariants.{Got, End, Failed}

-- how many bytes came
abbrev pub pulled_count : Pulled → ℕ
pulled_count (Got n) = n
pulled_count End = 0
pulled_count Failed = 0

-- whether it was a fault
abbrev pub pull_failed : Pulled → Bool
pull_failed (Got n) = false
pull_failed End = false
pull_failed Failed = true

-- no more bytes than the piece has room for, and some where it has room
pub record CountFits (count room : ℕ) : Type 0 where
  pub most : count ≤ room
  pub some : 0 < room → 0 < count

abbrev pub PullFits : Pulled → ℕ → Type 0
PullFits (Got n) room = CountFits n room
PullFits End room = Unit {0}
PullFits Failed room = Unit {0}

-- the bytes that were left are those of the piece and then those that are left now
pub record Gives (old : List ℕ) (new : Option (List ℕ)) (piece : List ℕ) : Type 0 where
  pub rest : List ℕ
  pub was : old ≡ piece ++ rest
  pub left : new ≡ Some rest

-- nothing was left for a piece with room, and what is left stays
pub record Ends (old : List ℕ) (new : Option (List ℕ)) (room : ℕ) : Type 0 where
  pub nothing : 0 < room → old ≡ []
  pub left : new ≡ Some old

-- of a source that tells what is left: before and after the call, and the piece after it
abbrev pub PullsFrom : List ℕ → Option (List ℕ) → Pulled → List ℕ → Type 0
PullsFrom old new (Got n) into = Gives old new (take n into)
PullsFrom old new End into = Ends old new (length into)
PullsFrom old new Failed into = new ≡ Some old

-- a source that doesn't tell what is left may do as it likes
abbrev pub Pulls : Option (List ℕ) → Option (List ℕ) → Pulled → List ℕ → Type 0
Pulls None new result into = Unit {0}
Pulls (Some old) new result into = PullsFrom old new result into
