-- The runs of scripts. The number of partitions is an argument.
use Rattle.std.specs.Prelude.{◌≡◌, ℕ, ◌<◌, false, List, [], ◌∷◌, ◌++◌, map, Option, Some, None, IsTrue}
use Rattle.cluster_types.specs.Partitions.{partition_count}
use Rattle.script_lang.specs.declared.script.Command.{Command}
use Rattle.script_lang.specs.declared.script.Command.TheVariants as command
use Rattle.script_lang.specs.declared.script.Script.{Script}
use Rattle.journal_lines.specs.declared.line.Line.{Line}
use Rattle.cluster_rules.specs.declared.event.Event.{Event}
use Rattle.cluster_rules.specs.declared.event.Event.TheVariants as event
use Rattle.cluster_rules.specs.Allowed.{event_of}
use Rattle.cluster_rules.specs.Calm.{is_calm_of}
use Rattle.cluster_rules.specs.Marks.{Mark, Writes}
use Rattle.cluster_rules.specs.Opening.{Header, header_lines}
use Rattle.cluster_rules.specs.Steps.{Played, no_steps, then_played, play, flow, round, rounds, all_marks, all_lines}
use Rattle.cluster_rules.specs.World.{World, opened}

-- ---- calm

-- the rounds after which a world is calm for the first time
pub record ComesToCalm (n : ℕ) (w : World) (k : ℕ) : Type 0 where
  pub calm : IsTrue (is_calm_of n (rounds n k w).world)
  pub before : (i : ℕ) → i < k → is_calm_of n (rounds n i w).world ≡ false

-- so many rounds, and then the event that tells their number
abbrev pub calming : ℕ → ℕ → World → Played
calming n k w = then_played (rounds n k w) (play n (event.Calmed k))

-- rounds, each begun only where the world isn't calm, and then the event that tells their number
pub record Calms (n : ℕ) (w : World) (x : Played) : Type 0 where
  pub number : ℕ
  pub reached : ComesToCalm n w number
  pub played : x ≡ calming n number w

-- ---- commands

-- what the event that a command is makes of a world; a command that is none makes nothing so
abbrev pub PlaysEvent : ℕ → World → Option Event → Played → Type 0
PlaysEvent n w None x = ⊥
PlaysEvent n w (Some e) x = x ≡ play n e w

-- what a command makes of a world: a flow, a round, rounds up to calm, or one event
abbrev pub Plays : ℕ → World → Command → Played → Type 0
Plays n w command.Flow x = x ≡ flow n w
Plays n w command.Round x = x ≡ round n w
Plays n w command.Calm x = Calms n w x
Plays n w c x = PlaysEvent n w (event_of c) x

-- one thing is played, and then others in the world after it
pub record InTurn (First : Played → Type 0) (Others : World → Played → Type 0) (x : Played)
    : Type 0 where
  pub first : Played
  pub plays : First first
  pub others : Played
  pub follows : Others first.world others
  pub whole : x ≡ then_played first (λ v. others)

-- commands, each in the world after those before it
abbrev pub PlaysAll : ℕ → World → List Command → Played → Type 0
PlaysAll n w [] x = x ≡ no_steps w
PlaysAll n w (c ∷ cs) x = InTurn (Plays n w c) (λ v y. PlaysAll n v cs y) x

-- ---- runs

-- the journal of a script of so many partitions: the header's lines, and then, for each command, those of its
-- events; there are no others
pub record RunOf (n : ℕ) (script : Script) (journal : List Line) : Type 0 where
  pub played : Played
  pub plays : PlaysAll n (opened script.header) script.commands played
  pub written : journal ≡ header_lines script.header ++ all_lines played.steps

-- the marks of a run: the header's lines, and then its steps
abbrev pub run_marks : Header → Played → List Mark
run_marks h x = map Writes (header_lines h) ++ all_marks x.steps

-- the journal of a script
abbrev pub Run : Script → List Line → Type 0
Run script journal = RunOf partition_count script journal
