-- Steps, one after another: an event with the lines that are due of it, and the world after them. The number of
-- partitions is an argument.
use Rattle.std.specs.Prelude.{◌≡◌, ℕ, zero, suc, List, [], ◌∷◌, ◌++◌, map, flat_map}
use Rattle.journal_lines.specs.declared.line.Line.{Line}
use Rattle.cluster_rules.specs.declared.event.Event.{Event}
use Rattle.cluster_rules.specs.declared.event.Event.TheVariants as event
use Rattle.cluster_rules.specs.Marks.{Mark, Begins, Writes, after_all}
use Rattle.cluster_rules.specs.DueEvents.{due_of}
use Rattle.cluster_rules.specs.World.{World, up_nodes}

pub record Step : Type 0 where
  pub event : Event
  pub lines : List Line

-- the marks of a step
abbrev pub marks_of : Step → List Mark
marks_of s = Begins s.event ∷ map Writes s.lines

-- the marks of steps, in their order
abbrev pub all_marks : List Step → List Mark
all_marks ss = flat_map marks_of ss

-- the lines of steps, in their order
abbrev pub all_lines : List Step → List Line
all_lines ss = flat_map (λ s. s.lines) ss

-- each step has just the lines that are due of its event, in the world after the steps before it
abbrev pub AreDue : ℕ → World → List Step → Type 0
AreDue n w [] = Unit {0}
AreDue n w (s ∷ ss) = (s.lines ≡ due_of n w s.event) × AreDue n (after_all w (marks_of s)) ss

-- steps that were taken, and the world after them
pub record Played : Type 0 where
  pub steps : List Step
  pub world : World

-- no step
abbrev pub no_steps : World → Played
no_steps w = record { steps = []; world = w }

-- these steps, and then those that the world after them takes
abbrev pub then_played : Played → (World → Played) → Played
then_played x next = record {
  steps = x.steps ++ (next x.world).steps;
  world = (next x.world).world;
}

-- ---- an event

abbrev pub stepping : World → Step → Played
stepping w s = record { steps = s ∷ []; world = after_all w (marks_of s) }

-- the event with the lines that are due of it
abbrev pub play : ℕ → Event → World → Played
play n e w = stepping w (record { event = e; lines = due_of n w e })

-- events, each of the world after those before it
abbrev pub play_all : ℕ → List Event → World → Played
play_all n [] w = no_steps w
play_all n (e ∷ es) w = then_played (play n e w) (play_all n es)

-- ---- flow and rounds

-- each message that is in flight as it begins is delivered, in rising order of the numbers
abbrev pub flow : ℕ → World → Played
flow n w = play_all n (map event.Deliver w.network.flying) w

-- so many flows, one after another
abbrev pub flows : ℕ → ℕ → World → Played
flows n zero w = no_steps w
flows n (suc k) w = then_played (flow n w) (flows n k)

-- each up node ticks, in rising order, and then come four flows
abbrev pub round : ℕ → World → Played
round n w = then_played (play_all n (map event.Tick (up_nodes w)) w) (flows n 4)

-- so many rounds, one after another
unfoldable pub rounds : ℕ → ℕ → World → Played
rounds n zero w = no_steps w
rounds n (suc k) w = then_played (round n w) (rounds n k)
