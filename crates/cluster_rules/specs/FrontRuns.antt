-- What stands of a run where memory was refused: a front of its steps. No step need come next, since also a command
-- that has no step takes memory. The number of partitions is an argument.
use Rattle.std.specs.Prelude.{◌≡◌, ℕ, List, [], ◌∷◌, ◌++◌, ◌⊎◌}
use Rattle.cluster_types.specs.Partitions.{partition_count}
use Rattle.script_lang.specs.declared.script.Command.{Command}
use Rattle.script_lang.specs.declared.script.Script.{Script}
use Rattle.journal_lines.specs.declared.line.Line.{Line}
use Rattle.cluster_rules.specs.Begun.{MayPlay, ThenBegun}
use Rattle.cluster_rules.specs.Opening.{header_lines}
use Rattle.cluster_rules.specs.Runs.{Plays}
use Rattle.cluster_rules.specs.Steps.{Step, Played, all_lines}
use Rattle.cluster_rules.specs.World.{World, opened}

-- of the steps that the command plays in that world these were taken, from the first on
pub record IsFrontOf (n : ℕ) (w : World) (c : Command) (taken : List Step) : Type 0 where
  pub whole : Played
  pub plays : MayPlay n w c whole
  pub others : List Step
  pub front : whole.steps ≡ taken ++ others

-- of the steps of commands these were taken: those of the first commands whole, and a front of the next one's
abbrev pub AreFrontOf : ℕ → World → List Command → List Step → Type 0
AreFrontOf n w [] taken = taken ≡ []
AreFrontOf n w (c ∷ cs) taken =
    IsFrontOf n w c taken ⊎ ThenBegun (Plays n w c) (λ v ss. AreFrontOf n v cs ss) taken

-- the journal has the header's lines, and then those of a front of the steps of the script's run, each whole
pub record FrontRunOf (n : ℕ) (script : Script) (journal : List Line) : Type 0 where
  pub taken : List Step
  pub front : AreFrontOf n (opened script.header) script.commands taken
  pub written : journal ≡ header_lines script.header ++ all_lines taken

-- the journal of a front of a script's run
abbrev pub FrontRun : Script → List Line → Type 0
FrontRun script journal = FrontRunOf partition_count script journal
