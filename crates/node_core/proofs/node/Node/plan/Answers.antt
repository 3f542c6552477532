use Rattle.node_core.proofs.NodeLaws.{planned_so}
use Rattle.node_core.proofs.node.Node.plan.Goals as goal

pub invariant_of-self : goal.invariant_of-self
invariant_of-self c =
    planned_so c.self.inside c.args.planned c.self.invariant.0 (rw (← c.self.view_is) at c.requires.fits) (rw (← c.self.view_is) at c.requires.ranges) c.requires.room
