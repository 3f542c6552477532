use Rattle.node_core.proofs.NodeLaws.{in_view}
use Rattle.node_core.proofs.node.Node.own_view.Goals as goal

pub returns-in-Some-clause-view : goal.returns-in-Some-clause-view
returns-in-Some-clause-view c = rw (← c.self.view_is, c.deref.ensures) (in_view c.self.inside c.in-Some.view c.self.invariant.0 c.in-Some.is)
