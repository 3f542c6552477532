-- Runs that were begun: the steps that were taken so far, and the one that comes next. The number of partitions is an
-- argument. A run whose journal would pass a limit stops so, before the step that doesn't fit.
use Rattle.std.specs.Prelude.{◌≡◌, ℕ, ◌<◌, false, List, [], ◌∷◌, ◌++◌, ◌⊎◌}
use Rattle.cluster_types.specs.Partitions.{partition_count}
use Rattle.script_lang.specs.declared.script.Command.{Command}
use Rattle.script_lang.specs.declared.script.Command.TheVariants as command
use Rattle.script_lang.specs.declared.script.Script.{Script}
use Rattle.journal_lines.specs.declared.line.Line.{Line}
use Rattle.cluster_rules.specs.Calm.{is_calm_of}
use Rattle.cluster_rules.specs.Opening.{header_lines}
use Rattle.cluster_rules.specs.Runs.{Calms, Plays}
use Rattle.cluster_rules.specs.Steps.{Step, Played, rounds, all_lines}
use Rattle.cluster_rules.specs.World.{World, opened}

-- of those steps these were taken, from the first on, and this one comes next
pub record ComesNext (all taken : List Step) (next : Step) : Type 0 where
  pub others : List Step
  pub in_order : all ≡ taken ++ next ∷ others

-- ---- commands

-- rounds, each begun only where the world isn't calm; it needn't be calm after them
pub record AreBegun (n : ℕ) (w : World) (x : Played) : Type 0 where
  pub number : ℕ
  pub uneasy : (i : ℕ) → i < number → is_calm_of n (rounds n i w).world ≡ false
  pub played : x ≡ rounds n number w

-- what a command plays, and of calm also rounds that don't come to it, since it may be begun and never end
abbrev pub MayPlay : ℕ → World → Command → Played → Type 0
MayPlay n w command.Calm x = Calms n w x ⊎ AreBegun n w x
MayPlay n w c x = Plays n w c x

-- the command is begun in that world: these of its steps were taken, and this one comes next
pub record IsBegun (n : ℕ) (w : World) (c : Command) (taken : List Step) (next : Step)
    : Type 0 where
  pub whole : Played
  pub plays : MayPlay n w c whole
  pub front : ComesNext whole.steps taken next

-- one thing is played whole, and then others are begun in the world after it
pub record ThenBegun (First : Played → Type 0) (Others : World → List Step → Type 0)
    (taken : List Step) : Type 0 where
  pub first : Played
  pub plays : First first
  pub others : List Step
  pub begun : Others first.world others
  pub whole : taken ≡ first.steps ++ others

-- commands are begun: those before one of them are played whole, and that one is begun
abbrev pub AllBegun : ℕ → World → List Command → List Step → Step → Type 0
AllBegun n w [] taken next = ⊥
AllBegun n w (c ∷ cs) taken next =
    IsBegun n w c taken next ⊎ ThenBegun (Plays n w c) (λ v ss. AllBegun n v cs ss next) taken

-- ---- runs

-- the journal of a script's run that was begun: the header's lines, and then those of the first events, each whole;
-- these are the lines of the event that comes next
pub record BegunRunOf (n : ℕ) (script : Script) (journal next : List Line) : Type 0 where
  pub taken : List Step
  pub step : Step
  pub begun : AllBegun n (opened script.header) script.commands taken step
  pub written : journal ≡ header_lines script.header ++ all_lines taken
  pub following : next ≡ step.lines

-- the journal of a script's run that was begun, and the lines that come next
abbrev pub BegunRun : Script → List Line → List Line → Type 0
BegunRun script journal next = BegunRunOf partition_count script journal next
