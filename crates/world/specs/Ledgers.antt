-- What is written of a world's steps.
use Rattle.std.specs.Prelude.{◌≡◌, List, [], ◌∷◌, ◌++◌}
use Rattle.journal_lines.specs.declared.line.Line.{Line}
use Rattle.cluster_rules.specs.declared.event.Event.{Event}
use Rattle.world.specs.declared.ledger.Ledger.{Ledger}

-- the lines and the events are the same; room aside
pub record IsSameLedger (old new : Ledger) : Type 0 where
  pub lines : new.journal.lines ≡ old.journal.lines
  pub events : new.events.items ≡ old.events.items

-- the step of that event, with those lines, was written
pub record Wrote (old new : Ledger) (added : List Line) (e : Event) : Type 0 where
  pub lines : new.journal.lines ≡ old.journal.lines ++ added
  pub events : new.events.items ≡ old.events.items ++ e ∷ []
