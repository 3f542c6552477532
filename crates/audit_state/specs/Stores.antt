-- What is known of the nodes' stores.
use Rattle.std.specs.Prelude.{◌≡◌, ℕ, Bool, List, [], ◌∷◌, ◌++◌, Option, Some, None, cond, unwrap_or}
use Rattle.std.specs.HashMap as hash
use Rattle.audit_state.specs.declared.copies.PartitionCopy.{PartitionCopy}
use Rattle.audit_state.specs.declared.copies.RecordChange.{RecordChange}
use Rattle.audit_state.specs.declared.history.Change.{Change}
use Rattle.audit_state.specs.declared.stores.Stores.{Stores}
use Rattle.audit_state.specs.Copies.{held_since, holding_since}
use Rattle.audit_state.specs.Keys.{pair_eq}

-- how what the node held of the record of this number changed
abbrev pub history_of : Stores → ℕ → ℕ → List Change
history_of s n r = unwrap_or (hash.get pair_eq s.contents (n, r)) []

-- ---- the node's copy of a partition

abbrev pub copy_at : Stores → ℕ → ℕ → Option PartitionCopy
copy_at s n p = hash.get pair_eq s.copies (n, p)

abbrev pub held_in : Option PartitionCopy → List ℕ
held_in None = []
held_in (Some c) = c.held.items

abbrev pub touched_in : Option PartitionCopy → List ℕ
touched_in None = []
touched_in (Some c) = c.touched.items

abbrev pub holding_in : Option PartitionCopy → List Change
holding_in None = []
holding_in (Some c) = c.holding

abbrev pub changes_in : Option PartitionCopy → List RecordChange
changes_in None = []
changes_in (Some c) = c.changes

-- the records that it has, and those that it ever had
abbrev pub held_of : Stores → ℕ → ℕ → List ℕ
held_of s n p = held_in (copy_at s n p)

abbrev pub touched_of : Stores → ℕ → ℕ → List ℕ
touched_of s n p = touched_in (copy_at s n p)

-- something while it has a record
abbrev pub holding_of : Stores → ℕ → ℕ → List Change
holding_of s n p = holding_in (copy_at s n p)

-- the changes of its records
abbrev pub changes_of : Stores → ℕ → ℕ → List RecordChange
changes_of s n p = changes_in (copy_at s n p)

-- ---- what a line makes of them

-- the node's history of the record has one change more, and every other is as it was
abbrev pub PutsContent : Stores → Stores → ℕ → ℕ → Change → Type 0
PutsContent old new n r c =
    (m q : ℕ)
    → history_of new m q
    ≡ cond (pair_eq (n, r) (m, q)) (history_of old n r ++ c ∷ []) (history_of old m q)

-- a version of the record comes to the node's copy of the partition, which held it before or not, and maybe ever
pub record AddsToCopy (old new : Stores) (line n p r : ℕ) (holds ever : Bool) : Type 0 where
  pub held : (m q : ℕ)
      → held_of new m q
      ≡ cond (pair_eq (n, p) (m, q)) (held_since holds r (held_of old n p)) (held_of old m q)
  pub touched : (m q : ℕ)
      → touched_of new m q
      ≡ cond (pair_eq (n, p) (m, q)) (held_since ever r (touched_of old n p)) (touched_of old m q)
  pub holding : (m q : ℕ)
      → holding_of new m q ≡ cond (pair_eq (n, p) (m, q)) (holding_since line (holding_of old n p))
      (holding_of old m q)
  pub changes : (m q : ℕ)
      → changes_of new m q ≡ cond (pair_eq (n, p) (m, q))
      (changes_of old n p ++ record { line = line; number = r } ∷ []) (changes_of old m q)

-- the node's copy of the partition has no record from the line on
pub record ClearsCopy (old new : Stores) (line n p : ℕ) : Type 0 where
  pub held : (m q : ℕ) → held_of new m q ≡ cond (pair_eq (n, p) (m, q)) [] (held_of old m q)
  pub touched : (m q : ℕ) → touched_of new m q ≡ touched_of old m q
  pub holding : (m q : ℕ)
      → holding_of new m q ≡ cond (pair_eq (n, p) (m, q))
      (holding_of old n p ++ record { line = line; value = None } ∷ []) (holding_of old m q)
  pub changes : (m q : ℕ) → changes_of new m q ≡ changes_of old m q

-- a record of the node's copy of the partition changes at the line
pub record NotesChange (old new : Stores) (line n p r : ℕ) : Type 0 where
  pub held : (m q : ℕ) → held_of new m q ≡ held_of old m q
  pub touched : (m q : ℕ) → touched_of new m q ≡ touched_of old m q
  pub holding : (m q : ℕ) → holding_of new m q ≡ holding_of old m q
  pub changes : (m q : ℕ)
      → changes_of new m q ≡ cond (pair_eq (n, p) (m, q))
      (changes_of old n p ++ record { line = line; number = r } ∷ []) (changes_of old m q)
