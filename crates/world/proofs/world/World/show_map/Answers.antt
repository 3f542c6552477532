use Rattle.std.proofs.Common.{refl, sym}
use Rattle.cluster_rules.specs.declared.event.Event.TheVariants as event
use Rattle.world.proofs.EventLaws.{map_tells}
use Rattle.world.proofs.KeepLaws.{keeps_tells, named_declared, step_tells}
use Rattle.world.proofs.world.World.show_map.Goals as goal

pub node-requires : goal.node-requires
node-requires c = named_declared _ c.args.event.value (event.Map c.args.node c.args.from c.args.to) c.args.node c.requires.is refl c.requires.comes

pub map_lines-requires : goal.map_lines-requires
map_lines-requires c = sym c.node.ensures.own

pub returns : goal.returns
returns c =
    step_tells c.self.inside _ c.tell_all.new.self c.args.event.value _ c.tell_all.result c.self.view_is c.self.invariant
    (map_tells _ c.args.event.value c.args.node c.args.from c.args.to c.in_ok-lines.lines c.node.result.now.now c.requires.is c.node.ensures.facts c.in_ok-lines.ensures)
    c.tell_all.ensures.ok c.tell_all.ensures.within c.tell_all.ensures.too_long c.tell_all.ensures.err

pub invariant_of-self : goal.invariant_of-self
invariant_of-self c =
    keeps_tells c.self.inside _ c.tell_all.new.self c.args.event.value _ c.tell_all.result c.self.view_is c.self.invariant
    (map_tells _ c.args.event.value c.args.node c.args.from c.args.to c.in_ok-lines.lines c.node.result.now.now c.requires.is c.node.ensures.facts c.in_ok-lines.ensures) c.requires.comes
    c.tell_all.ensures.ok c.tell_all.ensures.within c.tell_all.ensures.err
