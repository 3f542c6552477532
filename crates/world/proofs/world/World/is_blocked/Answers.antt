use Rattle.std.proofs.Common.{rules}
use Rattle.world.proofs.world.World.is_blocked.Goals as goal

pub returns-then-to-ne-CLIENT : goal.returns-then-to-ne-CLIENT
returns-then-to-ne-CLIENT c = search rules
