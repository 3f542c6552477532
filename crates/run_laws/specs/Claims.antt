-- Of which journals a claim holds.
use Rattle.std.specs.Prelude.{◌≡◌, ◌<◌, ℕ, List, [], length, take, slice_get, Some, IsTrue}
use Rattle.cluster_types.specs.Distinct.{AreDistinct}
use Rattle.script_lang.specs.declared.script.Script.{Script}
use Rattle.script_lang.specs.Proper.{IsProper}
use Rattle.journal_lines.specs.declared.line.Line.{Line}
use Rattle.cluster_rules.specs.Begun.{BegunRun}
use Rattle.cluster_rules.specs.FrontRuns.{FrontRun}
use Rattle.cluster_rules.specs.Opening.{Header, header_lines}
use Rattle.cluster_rules.specs.Runs.{Run}
use Rattle.journal_readings.specs.Settings.{nodes}
use Rattle.journal_readings.specs.Shape.{follows_header, follows_entries}
use Rattle.cluster_rules.specs.Steps.{Step, all_lines}
use Rattle.cluster_laws.specs.Journals.{IsJournal, journal}
use Rattle.run_laws.specs.Taken.{Taken, ground_of, line_bound}

-- each line of taken steps has its licence and fits, by the ground that the steps' history makes
abbrev pub AreLicensed : Type 0
AreLicensed =
    (h : Header) (ss : List Step) → Taken h ss
    → IsJournal (header_lines h) (ground_of h ss) (all_lines ss)

-- the claim holds of the journal of steps that are taken: so of a world after every call
abbrev pub OfTakenSteps : (List Line → Type 0) → Type 0
OfTakenSteps P =
    (h : Header) (ss : List Step) → Taken h ss → P (journal (header_lines h) (all_lines ss))

-- of the journal of a proper script's run
abbrev pub OfRuns : (List Line → Type 0) → Type 0
OfRuns P =
    (s : Script) (lines : List Line) → Run s lines → IsProper s → length lines < line_bound
    → P lines

-- of that of its run that was begun
abbrev pub OfBegunRuns : (List Line → Type 0) → Type 0
OfBegunRuns P =
    (s : Script) (lines next : List Line) → BegunRun s lines next → IsProper s
    → length lines < line_bound → P lines

-- and of that of a front of its run's steps: so also where memory was refused
abbrev pub OfFrontRuns : (List Line → Type 0) → Type 0
OfFrontRuns P =
    (s : Script) (lines : List Line) → FrontRun s lines → IsProper s → length lines < line_bound
    → P lines

-- the claim holds of every journal that a program of these rules writes
pub record OfEveryJournal (P : List Line → Type 0) : Type 0 where
  pub steps : OfTakenSteps P
  pub runs : OfRuns P
  pub begun : OfBegunRuns P
  pub fronts : OfFrontRuns P
  -- no line at all: nothing was begun
  pub nothing : P []

-- what the shape of a journal says of its order: the header's lines stand before all others, and no node is declared twice;
-- a node finishes exchange, and shows a map, where all members have entered
pub record StandsInOrder (j : List Line) : Type 0 where
  pub header : (i : ℕ) (l : Line) → slice_get j i ≡ Some l → IsTrue (follows_header (take i j) l)
  pub declared_once : AreDistinct (nodes j)
  pub exchanged : (i : ℕ) (l : Line) → slice_get j i ≡ Some l
      → IsTrue (follows_entries (take i j) l)
