-- How something changed along the journal, and what it was at a place.
use Rattle.std.specs.Prelude.{ℕ, ◌-◌, ◌<◌, ◌≤◌, nat_lt, length, slice_get, if◌then◌else◌, List, [], ◌∷◌, Option, Some, None, All}
use Rattle.audit_state.specs.declared.history.Change.{Change}

-- none of the changes stands behind the line at this place
abbrev pub AreUpTo : ℕ → List Change → Type 0
AreUpTo line changes = All (λ c. c.line ≤ line) changes

-- all of the changes stand in so many lines
abbrev pub AreBelow : ℕ → List Change → Type 0
AreBelow lines changes = All (λ c. c.line < lines) changes

-- the last change in so many lines, where this was the last before these
abbrev pub last_from : Option Change → List Change → ℕ → Option Change
last_from last [] lines = last
last_from last (c ∷ cs) lines = if nat_lt c.line lines then last_from (Some c) cs lines else last

-- the last change in so many lines
abbrev pub last_before : List Change → ℕ → Option Change
last_before changes lines = last_from None changes lines

abbrev pub changed_value : Option Change → Option ℕ
changed_value None = None
changed_value (Some c) = c.value

-- what it was after so many lines: what its last change made of it, and nothing before
abbrev pub value_after : List Change → ℕ → Option ℕ
value_after changes lines = changed_value (last_before changes lines)

-- what it is behind all changes
abbrev pub value_now : List Change → Option ℕ
value_now changes = changed_value (slice_get changes (length changes - 1))
