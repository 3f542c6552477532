-- What a command makes of a run.
use Rattle.std.specs.Prelude.{◌≡◌, ℕ, ◌<◌, ◌++◌, List, [], length}
use Rattle.cluster_types.specs.Partitions.{partition_count}
use Rattle.journal_text.specs.Journals.{IsWithin}
use Rattle.script_lang.specs.declared.script.Command.{Command}
use Rattle.cluster_rules.specs.Begun.{AreBegun, IsBegun}
use Rattle.cluster_rules.specs.FrontRuns.{IsFrontOf}
use Rattle.cluster_rules.specs.Runs.{Plays, ComesToCalm, calming}
use Rattle.cluster_rules.specs.Steps.{Step, Played}
use Rattle.calm_laws.specs.Claims.{AreInTime}
use Rattle.world.specs.Steps.{RunSoFar, standing, run_lines}

-- the run with more steps
abbrev pub followed : RunSoFar → List Step → RunSoFar
followed r steps = record r { steps = r.steps ++ steps }

-- the command was played whole
pub record PlaysOn (old new : RunSoFar) (c : Command) : Type 0 where
  pub played : Played
  pub plays : Plays partition_count (standing old) c played
  pub steps : new ≡ followed old played.steps

-- so many rounds were played, of which the world was calm after the last and not before, and their number told
pub record ComesToRest (old new : RunSoFar) (rounds : ℕ) : Type 0 where
  pub least : ComesToCalm partition_count (standing old) rounds
  pub steps : new ≡ followed old (calming partition_count rounds (standing old)).steps

-- calm was played whole, and its rounds are in time
pub record RestsInTime (old new : RunSoFar) : Type 0 where
  pub rounds : ℕ
  pub rest : ComesToRest old new rounds
  pub in_time : AreInTime (standing old) rounds

-- the command was begun; the lines of the step that comes next don't fit behind those of the steps that were taken
pub record StopsIn (old new : RunSoFar) (c : Command) : Type 0 where
  pub taken : List Step
  pub next : Step
  pub begun : IsBegun partition_count (standing old) c taken next
  pub steps : new ≡ followed old taken
  pub passes : ¬ IsWithin (run_lines new ++ next.lines)

-- some first steps of the command were taken: all of them only where no message is in flight any more,
-- since also a flow of nothing takes memory
pub record StandsIn (old new : RunSoFar) (c : Command) : Type 0 where
  pub taken : List Step
  pub front : IsFrontOf partition_count (standing old) c taken
  pub steps : new ≡ followed old taken
  pub idle : front.others ≡ [] → (standing new).network.flying ≡ []

-- calm was given up: some first steps were taken of rounds, each begun only where the world wasn't
-- calm, and so not the one that tells their number
pub record GivesUp (old new : RunSoFar) : Type 0 where
  pub rounds : Played
  pub begun : AreBegun partition_count (standing old) rounds
  pub taken : List Step
  pub others : List Step
  pub front : rounds.steps ≡ taken ++ others
  pub steps : new ≡ followed old taken

-- lines were added, and the journal still fits: so rounds of a world that isn't calm come to an end
pub record WritesMore (old new : RunSoFar) : Type 0 where
  pub more : length (run_lines old) < length (run_lines new)
  pub within : IsWithin (run_lines new)
