-- What is known of what was written in a view, as one write more is.
use Rattle.std.specs.Prelude.{◌≡◌, ℕ, Bool, false, nat_eq, List, [], ◌∷◌, ◌++◌, Option, Some, None, cond, is_some}
use Rattle.std.specs.HashMap as hash
use Rattle.conflict_order.specs.declared.policy.Policy.{Policy}
use Rattle.journal_lines.specs.declared.line.Line.{Line}
use Rattle.audit_state.specs.declared.views.Partition.{Partition}
use Rattle.audit_state.specs.declared.views.View.{View}
use Rattle.audit_state.specs.Copies.{held_since}
use Rattle.audit_state.specs.Views.{SameEntries}
use Rattle.audit_state.specs.Records.{raised}

-- ---- a partition in a view

-- the records that were written in it
abbrev pub written_in : Option Partition → List ℕ
written_in None = []
written_in (Some x) = x.written.items

-- whether it is settled, how many writes are open, and what is to be tried
pub record Stand : Type 0 where
  pub settled : Bool
  pub open_writes : ℕ
  pub untried : Bool
  pub suspects : List ℕ

abbrev pub stand_in : Option Partition → Stand
stand_in None = record { settled = false; open_writes = 0; untried = false; suspects = [] }
stand_in (Some x) = record {
  settled = x.settled;
  open_writes = x.open;
  untried = x.untried;
  suspects = x.suspects.items;
}

abbrev pub written_of : View → ℕ → List ℕ
written_of v p = written_in (hash.get nat_eq v.partitions p)

abbrev pub stand_of : View → ℕ → Stand
stand_of v p = stand_in (hash.get nat_eq v.partitions p)

-- ---- a write

-- the place of the newest version of the record is the line's where that is above it
abbrev pub RaisesApplied : Policy → List Line → ℕ → ℕ → Option ℕ → View → View → Type 0
RaisesApplied by lines line r newest old new =
    (q : ℕ)
    → hash.get nat_eq new.applied q
    ≡ cond (nat_eq r q) (raised by lines line newest) (hash.get nat_eq old.applied q)

-- a record is listed among those that were written, also in its partition
pub record ListsRecord (r p : ℕ) (old new : View) : Type 0 where
  pub written : new.written.items ≡ old.written.items ++ r ∷ []
  pub here : (q : ℕ)
      → written_of new q ≡ cond (nat_eq p q) (written_of old p ++ r ∷ []) (written_of old q)
  pub stands : (q : ℕ) → stand_of new q ≡ stand_of old q
  pub applied : new.applied ≡ old.applied
  pub settled : new.settled ≡ old.settled
  pub writes : new.writes ≡ old.writes
  pub entries : SameEntries old new

-- the version at the line is written in the view
pub record WritesRecord (by : Policy) (lines : List Line) (line r p : ℕ) (old new : View)
    : Type 0 where
  pub applied : RaisesApplied by lines line r (hash.get nat_eq old.applied r) old new
  pub written : new.written.items
      ≡ held_since (is_some (hash.get nat_eq old.applied r)) r old.written.items
  pub here : (q : ℕ)
      → written_of new q ≡ cond (nat_eq p q)
      (held_since (is_some (hash.get nat_eq old.applied r)) r (written_of old p))
      (written_of old q)
  pub stands : (q : ℕ) → stand_of new q ≡ stand_of old q
  pub settled : new.settled ≡ old.settled
  pub writes : new.writes ≡ old.writes
  pub entries : SameEntries old new
