use Rattle.std.proofs.Common.{arith}
use Rattle.std.proofs.lemmas.Grind.{common_steps}
use Rattle.world.proofs.world.World.is_calm.Goals as goal

pub returns-then-are_groups_at_rest : goal.returns-then-are_groups_at_rest
returns-then-are_groups_at_rest c = grind (arith, common_steps)
