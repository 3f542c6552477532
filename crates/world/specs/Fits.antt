-- When a journal is that of a run.
use Rattle.std.specs.Prelude.{◌≡◌, ℕ, ◌≤◌, List, length}
use Rattle.journal_lines.specs.declared.line.Line.{Line}
use Rattle.journal_text.specs.Journals.{IsWithin}
use Rattle.run_laws.specs.Taken.{Taken}
use Rattle.world.specs.Steps.{RunSoFar, run_lines}

-- the journal is that of the run, whose steps are taken, and passes no limit
pub record FitsRun (r : RunSoFar) (number : ℕ) (lines : List Line) : Type 0 where
  pub journal : lines ≡ run_lines r
  pub within : IsWithin lines
  pub taken : Taken r.header r.steps
  -- so no number of a message is too great
  pub sent : number ≤ length lines
