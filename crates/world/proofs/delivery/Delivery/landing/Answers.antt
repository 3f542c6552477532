use Rattle.std.proofs.Common.{rules}
use Rattle.world.proofs.delivery.Delivery.landing.Goals as goal

pub returns-in-Repeated : goal.returns-in-Repeated
returns-in-Repeated c = search rules
