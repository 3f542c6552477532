use Rattle.world.proofs.KeepLaws.{ids_of_world}
use Rattle.world.proofs.world.World.rising_ids.Goals as goal

pub returns : goal.returns
returns c = ids_of_world c.self.inside _ c.self.view_is c.self.invariant
