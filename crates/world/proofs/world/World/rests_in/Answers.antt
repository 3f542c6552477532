use Rattle.std.proofs.Common.{ap, ◌∙◌, arith}
use Rattle.node_rules.specs.Facts.{Facts}
use Rattle.world.specs.Calmness.{rests_in}
use Rattle.world.specs.Steps.{standing}
use Rattle.world.proofs.KeepLaws.{node_at, node_within}
use Rattle.world.proofs.world.World.rests_in.Goals as goal

pub index-requires : goal.index-requires
index-requires c = omega (arith, node_within c.self.inside _ c.in-Some.place c.number.result c.self.view_is c.self.invariant c.in-Some.ensures.found, c.self.inside.nodes.ok)

pub returns-in-Some : goal.returns-in-Some
returns-in-Some c =
    c.rests_in.ensures
    ∙ ap (λ (f : Facts). rests_in c.args.key c.args.members.now f)
    (node_at c.self.inside c.args.self.now c.in-Some.place c.number.result c.index.result.now c.self.view_is c.self.invariant c.in-Some.ensures.found c.index.ensures ∙ ap (standing c.args.self.now).facts c.number.ensures.same)
