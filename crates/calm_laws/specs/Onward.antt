-- Worlds that taken steps lead to, and the steps that may be taken on from them.
use Rattle.std.specs.Prelude.{◌≡◌, ◌<◌, ◌+◌, List, ◌++◌, length}
use Rattle.cluster_rules.specs.Opening.{Header}
use Rattle.cluster_rules.specs.Steps.{Step, all_lines}
use Rattle.cluster_rules.specs.World.{World}
use Rattle.run_laws.specs.Taken.{Taken, line_bound}
use Rattle.run_laws.specs.Worlds.{world_after}

-- taken steps lead to the world, these are taken after them, and a number is left for one line more
pub record MayTake (w : World) (more : List Step) : Type 0 where
  pub header : Header
  pub before : List Step
  pub leads : world_after header before ≡ w
  pub taken : Taken header (before ++ more)
  pub room : length (all_lines (before ++ more)) + 1 < line_bound
