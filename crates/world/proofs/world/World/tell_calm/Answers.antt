use Rattle.world.proofs.EventLaws.{calmed_tells}
use Rattle.world.proofs.KeepLaws.{keeps_tells, step_tells}
use Rattle.world.proofs.world.World.tell_calm.Goals as goal

pub returns : goal.returns
returns c =
    step_tells c.self.inside _ c.tell.new.self c.args.event.value _ c.tell.result c.self.view_is c.self.invariant
    (calmed_tells _ c.args.event.value c.args.rounds c.requires.is)
    c.tell.ensures.ok c.tell.ensures.within c.tell.ensures.too_long c.tell.ensures.err

pub invariant_of-self : goal.invariant_of-self
invariant_of-self c =
    keeps_tells c.self.inside _ c.tell.new.self c.args.event.value _ c.tell.result c.self.view_is c.self.invariant
    (calmed_tells _ c.args.event.value c.args.rounds c.requires.is) c.requires.comes
    c.tell.ensures.ok c.tell.ensures.within c.tell.ensures.err
