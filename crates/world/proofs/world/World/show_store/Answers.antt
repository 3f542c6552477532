use Rattle.std.proofs.Common.{refl}
use Rattle.cluster_rules.specs.declared.event.Event.TheVariants as event
use Rattle.world.proofs.EventLaws.{show_tells}
use Rattle.world.proofs.KeepLaws.{its_own, keeps_tells, named_declared, step_tells}
use Rattle.world.proofs.world.World.show_store.Goals as goal

pub node-requires : goal.node-requires
node-requires c = named_declared _ c.args.event.value (event.Show c.args.node c.args.digest) c.args.node c.requires.is refl c.requires.comes

pub returns : goal.returns
returns c =
    step_tells c.self.inside _ c.tell.new.self c.args.event.value _ c.tell.result c.self.view_is c.self.invariant
    (show_tells _ c.args.event.value c.args.node c.args.digest c.in_ok-line.line c.node.result.now.now c.requires.is c.node.ensures.facts (its_own c.self.inside _ c.args.node c.self.view_is c.self.invariant) c.in_ok-line.ensures)
    c.tell.ensures.ok c.tell.ensures.within c.tell.ensures.too_long c.tell.ensures.err

pub invariant_of-self : goal.invariant_of-self
invariant_of-self c =
    keeps_tells c.self.inside _ c.tell.new.self c.args.event.value _ c.tell.result c.self.view_is c.self.invariant
    (show_tells _ c.args.event.value c.args.node c.args.digest c.in_ok-line.line c.node.result.now.now c.requires.is c.node.ensures.facts (its_own c.self.inside _ c.args.node c.self.view_is c.self.invariant) c.in_ok-line.ensures) c.requires.comes
    c.tell.ensures.ok c.tell.ensures.within c.tell.ensures.err
