-- What a script's commands make of a world.
use Rattle.std.specs.Prelude.{◌≡◌, ◌++◌, List, All, IsTrue}
use Rattle.cluster_types.specs.Partitions.{partition_count}
use Rattle.script_lang.specs.declared.script.Command.{Command}
use Rattle.journal_text.specs.Journals.{IsWithin}
use Rattle.cluster_rules.specs.Allowed.{is_playable}
use Rattle.cluster_rules.specs.Begun.{AllBegun}
use Rattle.cluster_rules.specs.FrontRuns.{AreFrontOf}
use Rattle.cluster_rules.specs.Opening.{Header, declared_nodes}
use Rattle.cluster_rules.specs.Runs.{PlaysAll}
use Rattle.cluster_rules.specs.Steps.{Step, Played}
use Rattle.world.specs.Steps.{RunSoFar, standing, run_lines}
use Rattle.calm_run.specs.Playing.{followed}

-- the commands name nodes alone that the header declares, and groups name each of them
abbrev pub ArePlayable : Header → List Command → Type 0
ArePlayable h cs = All (λ c. IsTrue (is_playable (declared_nodes h) c)) cs

-- the commands were played whole, one after another
pub record PlaysAllOn (old new : RunSoFar) (cs : List Command) : Type 0 where
  pub played : Played
  pub plays : PlaysAll partition_count (standing old) cs played
  pub steps : new ≡ followed old played.steps

-- the commands were begun; the lines of the step that comes next don't fit behind those of the steps
-- that were taken
pub record StopsAmong (old new : RunSoFar) (cs : List Command) : Type 0 where
  pub taken : List Step
  pub next : Step
  pub begun : AllBegun partition_count (standing old) cs taken next
  pub steps : new ≡ followed old taken
  pub passes : ¬ IsWithin (run_lines new ++ next.lines)

-- some first steps of the commands were taken
pub record StandsAmong (old new : RunSoFar) (cs : List Command) : Type 0 where
  pub taken : List Step
  pub front : AreFrontOf partition_count (standing old) cs taken
  pub steps : new ≡ followed old taken
