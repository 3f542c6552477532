use Rattle.std.proofs.Common.{rules}
use Rattle.world.proofs.delivery.Delivery.is_short_of.Goals as goal

pub returns-in-Cut : goal.returns-in-Cut
returns-in-Cut c = search rules
