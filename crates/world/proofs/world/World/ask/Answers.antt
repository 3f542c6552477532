use Rattle.std.proofs.Common.{ap}
use Rattle.world.specs.declared.taking.EndStep.{EndStep}
use Rattle.world.proofs.ActsLaws.{asks_so, sends_keeps, sends_takes}
use Rattle.world.proofs.world.World.ask.Goals as goal

pub returns : goal.returns
returns c =
    sends_takes c.self.inside _ c.args.event.value c.of-step.result c.take.new.net c.take.new.ledger c.take.result c.self.view_is c.self.invariant
    (asks_so c.self.inside _ c.args.event.value c.args.node c.number.result c.new-lines.result c.new-sends.result c.push.new.self c.in_ok-encode.field-0 c.of-step.result c.self.view_is c.self.invariant c.requires.is
    c.new-lines.ensures c.new-sends.ensures c.in_ok-push.ensures.ok c.number.ensures.same c.in_ok-encode.ensures c.of-step.ensures)
    (ap (λ (s : EndStep). s.event.value) c.of-step.ensures)
    c.take.ensures.wrote c.take.ensures.within c.take.ensures.too_long c.take.ensures.err

pub invariant_of-self : goal.invariant_of-self
invariant_of-self c =
    sends_keeps c.self.inside _ c.args.event.value c.of-step.result c.take.new.net c.take.new.ledger c.take.result c.self.view_is c.self.invariant
    (asks_so c.self.inside _ c.args.event.value c.args.node c.number.result c.new-lines.result c.new-sends.result c.push.new.self c.in_ok-encode.field-0 c.of-step.result c.self.view_is c.self.invariant c.requires.is
    c.new-lines.ensures c.new-sends.ensures c.in_ok-push.ensures.ok c.number.ensures.same c.in_ok-encode.ensures c.of-step.ensures)
    (ap (λ (s : EndStep). s.event.value) c.of-step.ensures) c.requires.comes
    c.take.ensures.numbers c.take.ensures.net c.take.ensures.wrote c.take.ensures.within c.take.ensures.err
