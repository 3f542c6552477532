use Rattle.std.proofs.Common.{arith}
use Rattle.world.proofs.ActsLaws.{asked_if}
use Rattle.world.proofs.KeepLaws.{stands_of}
use Rattle.world.proofs.world.World.asked_node.Goals as goal

pub returns-clause-declared : goal.returns-clause-declared
returns-clause-declared c =
    asked_if c.self.inside _ c.args.partition c.node_of.result c.self.view_is c.self.invariant (omega (arith, c.number.ensures.same, c.number.ensures.range))
    (c.node_of.ensures.value _ (stands_of c.self.inside _ c.self.view_is c.self.invariant).tables)
