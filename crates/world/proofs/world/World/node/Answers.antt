use Rattle.std.proofs.Common.{ap, ◌∙◌, arith}
use Rattle.node_rules.specs.Facts.{Facts}
use Rattle.world.proofs.KeepLaws.{its_own, node_at, node_within}
use Rattle.world.proofs.world.World.node.Goals as goal

pub index-requires : goal.index-requires
index-requires c = omega (arith, node_within c.self.inside _ c.place_of.result c.args.id c.self.view_is c.self.invariant c.place_of.ensures, c.self.inside.nodes.ok)

pub returns-clause-facts : goal.returns-clause-facts
returns-clause-facts c = node_at c.self.inside _ c.place_of.result c.args.id c.index.result.now c.self.view_is c.self.invariant c.place_of.ensures c.index.ensures

pub returns-clause-own : goal.returns-clause-own
returns-clause-own c =
    ap (λ (f : Facts). f.me) (node_at c.self.inside _ c.place_of.result c.args.id c.index.result.now c.self.view_is c.self.invariant c.place_of.ensures c.index.ensures)
    ∙ its_own c.self.inside _ c.args.id c.self.view_is c.self.invariant
