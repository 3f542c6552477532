use Rattle.std.proofs.Common.{ap, refl, sym, ◌∙◌, arith}
use Rattle.node_rules.specs.Facts.{Facts}
use Rattle.world.proofs.KeepLaws.{node_at, node_within}
use Rattle.world.proofs.world.World.is_up.Goals as goal

pub returns-in-None : goal.returns-in-None
returns-in-None c = sym (c.in-None.ensures.down refl)

pub index-requires : goal.index-requires
index-requires c = omega (arith, node_within c.self.inside _ c.in-Some.place c.args.number c.self.view_is c.self.invariant c.in-Some.ensures.found, c.self.inside.nodes.ok)

pub returns-in-Some : goal.returns-in-Some
returns-in-Some c =
    c.is_up.ensures
    ∙ ap (λ (f : Facts). f.up) (node_at c.self.inside _ c.in-Some.place c.args.number c.index.result.now c.self.view_is c.self.invariant c.in-Some.ensures.found c.index.ensures)
