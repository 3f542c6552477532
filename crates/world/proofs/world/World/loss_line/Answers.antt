use Rattle.world.proofs.EventLaws.{lost_line, no_lost_line}
use Rattle.world.proofs.KeepLaws.{stands_of}
use Rattle.world.proofs.world.World.loss_line.Goals as goal

pub returns-in-Some : goal.returns-in-Some
returns-in-Some c =
    lost_line c.self.inside.net _ c.args.message c.in-Some.field-0.now (stands_of c.self.inside _ c.self.view_is c.self.invariant).network c.in-Some.ensures

pub returns-in-None : goal.returns-in-None
returns-in-None c =
    no_lost_line c.self.inside.net _ c.args.message (stands_of c.self.inside _ c.self.view_is c.self.invariant).network c.in-None.ensures
