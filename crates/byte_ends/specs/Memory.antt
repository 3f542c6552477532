-- The ends over memory, as a caller sees them.
use Rattle.std.specs.Prelude.{◌≡◌, ℕ, ◌+◌, ◌<◌, ◌⊎◌, List, Contains}

-- a source over memory
pub record SourceState : Type 0 where
  -- the bytes still to come
  pub left : List ℕ
  -- the most bytes that a pull gives
  pub piece : ℕ
  -- which calls fail, counted from 1
  pub fails : List ℕ
  -- how many calls there were, counted no further than a count goes
  pub calls : ℕ
  pub faults : ℕ

-- a sink over memory
pub record SinkState : Type 0 where
  -- the bytes taken
  pub taken : List ℕ
  -- for how many bytes more there is room
  pub room : ℕ
  -- which calls fail, counted from 1
  pub fails : List ℕ
  -- how many calls there were, counted no further than a count goes
  pub calls : ℕ
  pub faults : ℕ

-- the call after so many others stands among those that fail
abbrev pub NextFails : List ℕ → ℕ → Type 0
NextFails fails calls = Contains fails (calls + 1)

-- a push of so many bytes is to fail: its call is chosen, or there are bytes and no room
abbrev pub PushFails : SinkState → ℕ → Type 0
PushFails s size = NextFails s.fails s.calls ⊎ ((0 < size) × (s.room ≡ 0))
