-- What a copy of a partition is told of its records.
use Rattle.std.specs.Prelude.{◌≡◌, ℕ, ◌≤◌, Bool, List, [], ◌∷◌, ◌++◌, Some, All, is_some, if◌then◌else◌}
use Rattle.audit_state.specs.declared.copies.PartitionCopy.{PartitionCopy}
use Rattle.audit_state.specs.declared.copies.RecordChange.{RecordChange}
use Rattle.audit_state.specs.declared.history.Change.{Change}
use Rattle.audit_state.specs.Histories.{value_now}

-- none of the changes stands behind the line at this place
abbrev pub StandUpTo : ℕ → List RecordChange → Type 0
StandUpTo line changes = All (λ x. x.line ≤ line) changes

-- a copy that never had a record
pub record IsNewCopy (c : PartitionCopy) : Type 0 where
  pub held : c.held.items ≡ []
  pub holding : c.holding ≡ []
  pub touched : c.touched.items ≡ []
  pub changes : c.changes ≡ []

-- the records with this one, which they may have already
abbrev pub held_since : Bool → ℕ → List ℕ → List ℕ
held_since has r records = if has then records else records ++ r ∷ []

-- whether there is a record, from the line on at which there is one
abbrev pub holding_since : ℕ → List Change → List Change
holding_since line holding =
    if is_some (value_now holding) then holding
    else holding ++ record { line = line; value = Some line } ∷ []
