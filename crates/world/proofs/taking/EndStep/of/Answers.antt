use Rattle.std.proofs.Common.{refl}
use Rattle.world.proofs.taking.EndStep.of.Goals as goal

pub returns : goal.returns
returns c = refl
