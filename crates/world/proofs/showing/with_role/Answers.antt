use Rattle.std.proofs.Common.{rules}
use Rattle.world.proofs.showing.with_role.Goals as goal

pub returns : goal.returns
returns c = search rules
