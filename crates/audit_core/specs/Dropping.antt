-- What a line that drops a copy makes of what nodes hold.
use Rattle.std.specs.Prelude.{◌≡◌, ◌==◌, ◌+◌, ◌≤◌, ◌&&◌, ℕ, true, false, cond, map, List, ◌++◌, None}
use Rattle.journal_readings.specs.Lines.{has_node}
use Rattle.audit_state.specs.declared.copies.RecordChange.{RecordChange}
use Rattle.audit_state.specs.declared.history.Change.{Change}
use Rattle.audit_core.specs.declared.judge.Judge.{Judge}
use Rattle.audit_core.specs.Bringing.{KeepsLines}
use Rattle.audit_state.specs.Histories.{AreUpTo, value_after}
use Rattle.audit_state.specs.Keys.{pair_eq}
use Rattle.audit_state.specs.Stores.{history_of, held_of, touched_of, holding_of, changes_of}

-- the history ends at the line, and was before what it was
pub record EndsAt (line : ℕ) (old new : List Change) : Type 0 where
  pub before : (a : ℕ) → a ≤ line → value_after new a ≡ value_after old a
  pub ended : value_after new (line + 1) ≡ None

-- the change of each of these records at the line
abbrev pub changes_at : ℕ → List ℕ → List RecordChange
changes_at line rs = map (λ r. record { line = line; number = r }) rs

-- the node holds none of these records of the partition from the line on
pub record RemovesAll (line n p : ℕ) (rs : List ℕ) (old new : Judge) : Type 0 where
  pub keeps : KeepsLines old new
  pub ended : (q : ℕ) → has_node rs q ≡ true
      → EndsAt line (history_of old.stores n q) (history_of new.stores n q)
  pub others : (m q : ℕ) → ((n == m) && has_node rs q) ≡ false
      → history_of new.stores m q ≡ history_of old.stores m q
  pub up_to : (q : ℕ) → AreUpTo line (history_of old.stores n q)
      → AreUpTo line (history_of new.stores n q)
  pub held : (m q : ℕ) → held_of new.stores m q ≡ held_of old.stores m q
  pub touched : (m q : ℕ) → touched_of new.stores m q ≡ touched_of old.stores m q
  pub holding : (m q : ℕ) → holding_of new.stores m q ≡ holding_of old.stores m q
  pub changes : (m q : ℕ)
      → changes_of new.stores m q
      ≡ cond (pair_eq (n, p) (m, q)) (changes_of old.stores n p ++ changes_at line rs)
      (changes_of old.stores m q)
