use Rattle.world.proofs.EventLaws.{nothing_told}
use Rattle.world.proofs.KeepLaws.{keeps_tells, step_tells}
use Rattle.world.proofs.world.World.do_nothing.Goals as goal

pub returns : goal.returns
returns c =
    step_tells c.self.inside _ c.tell_all.new.self c.args.event.value c.new.result c.tell_all.result c.self.view_is c.self.invariant
    (nothing_told c.args.self.now c.args.event.value c.new.result c.requires.nothing c.new.ensures)
    c.tell_all.ensures.ok c.tell_all.ensures.within c.tell_all.ensures.too_long c.tell_all.ensures.err

pub invariant_of-self : goal.invariant_of-self
invariant_of-self c =
    keeps_tells c.self.inside _ c.tell_all.new.self c.args.event.value c.new.result c.tell_all.result c.self.view_is c.self.invariant
    (nothing_told c.args.self.now c.args.event.value c.new.result c.requires.nothing c.new.ensures) c.requires.comes
    c.tell_all.ensures.ok c.tell_all.ensures.within c.tell_all.ensures.err
