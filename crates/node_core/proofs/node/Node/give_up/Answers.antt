use Rattle.node_core.proofs.NodeLaws.{given_up}
use Rattle.node_core.proofs.node.Node.give_up.Goals as goal

pub invariant_of-self : goal.invariant_of-self
invariant_of-self c = given_up c.self.inside c.self.invariant.0
