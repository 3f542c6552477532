use Rattle.std.proofs.Common.{rules}
use Rattle.world.proofs.calmness.rests_in.Goals as goal

pub returns-then-eq : goal.returns-then-eq
returns-then-eq c = search rules
