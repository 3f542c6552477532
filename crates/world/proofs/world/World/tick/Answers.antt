use Rattle.std.proofs.Common.{ℕ, None, ap, refl, sym, subst, ◌∙◌, arith}
use Rattle.std.specs.Prelude.{IsSome}
use Rattle.node_rules.specs.Facts.{Facts}
use Rattle.node_rules.specs.Steps.{Planning, after_tick}
use Rattle.cluster_rules.specs.declared.event.Event.TheVariants as event
use Rattle.world.specs.declared.taking.EndStep.{EndStep}
use Rattle.world.proofs.ActsLaws.{Acts, acts_kept, acts_returns, counts_of, gave_up, tick_acts}
use Rattle.world.proofs.EventLaws.{tick_tells}
use Rattle.world.proofs.KeepLaws.{clock_within, its_own, keeps_tells, named_declared, node_at, node_within, step_tells}
use Rattle.world.proofs.Places.{at_set}
use Rattle.world.proofs.world.World.tick.Goals as goal

pub place_of-place-requires : goal.place_of-place-requires
place_of-place-requires c = named_declared _ c.args.event.value (event.Tick c.args.node) c.args.node c.requires.is refl c.requires.comes

pub index-requires : goal.index-requires
index-requires c = omega (arith, node_within c.self.inside _ c.place_of-place.result c.args.node c.self.view_is c.self.invariant c.place_of-place.ensures, c.self.inside.nodes.ok)

pub index_mut-requires : goal.index_mut-requires
index_mut-requires c = omega (arith, node_within c.self.inside _ c.place_of-place.result c.args.node c.self.view_is c.self.invariant c.place_of-place.ensures, c.self.inside.nodes.ok)

pub index_mut-requires-2 : goal.index_mut-requires-2
index_mut-requires-2 c = omega (arith, node_within c.self.inside _ c.place_of-place.result c.args.node c.self.view_is c.self.invariant c.place_of-place.ensures, c.self.inside.nodes.ok)

pub returns-then-not-is_up : goal.returns-then-not-is_up
returns-then-not-is_up c =
    step_tells c.self.inside _ c.tell.new.self c.args.event.value _ c.tell.result c.self.view_is c.self.invariant
    (tick_tells _ c.args.event.value c.args.node c.requires.is (record { positive = omega (arith, c.number-number.ensures.same, c.number-number.ensures.range); fits = omega (arith, c.number-number.ensures.same, c.number-number.type_inv) }) (its_own c.self.inside _ c.args.node c.self.view_is c.self.invariant)
    (sym (ap (λ (f : Facts). f.up) (node_at c.self.inside c.args.self.now c.place_of-place.result c.args.node c.index.result.now c.self.view_is c.self.invariant c.place_of-place.ensures c.index.ensures)) ∙ sym c.is_up.ensures ∙ c.if-not-is_up.true))
    c.tell.ensures.ok c.tell.ensures.within c.tell.ensures.too_long c.tell.ensures.err

pub invariant_of-self : goal.invariant_of-self
invariant_of-self c =
    keeps_tells c.self.inside _ c.tell.new.self c.args.event.value _ c.tell.result c.self.view_is c.self.invariant
    (tick_tells _ c.args.event.value c.args.node c.requires.is (record { positive = omega (arith, c.number-number.ensures.same, c.number-number.ensures.range); fits = omega (arith, c.number-number.ensures.same, c.number-number.type_inv) }) (its_own c.self.inside _ c.args.node c.self.view_is c.self.invariant)
    (sym (ap (λ (f : Facts). f.up) (node_at c.self.inside c.args.self.now c.place_of-place.result c.args.node c.index.result.now c.self.view_is c.self.invariant c.place_of-place.ensures c.index.ensures)) ∙ sym c.is_up.ensures ∙ c.if-not-is_up.true)) c.requires.comes
    c.tell.ensures.ok c.tell.ensures.within c.tell.ensures.err

pub tick-requires-clause-up : goal.tick-requires-clause-up
tick-requires-clause-up c = ap (λ (f : Facts). f.up) (node_at c.self.inside c.args.self.now c.place_of-place.result c.args.node c.index_mut.result.now c.self.view_is c.self.invariant c.place_of-place.ensures c.index_mut.ensures.value ∙ sym (node_at c.self.inside c.args.self.now c.place_of-place.result c.args.node c.index.result.now c.self.view_is c.self.invariant c.place_of-place.ensures c.index.ensures)) ∙ sym c.is_up.ensures ∙ c.if-not-is_up.false

pub tick-requires-clause-counts : goal.tick-requires-clause-counts
tick-requires-clause-counts c = counts_of c.self.inside _ c.args.node c.index_mut.result.now.now c.self.view_is c.self.invariant (node_at c.self.inside c.args.self.now c.place_of-place.result c.args.node c.index_mut.result.now c.self.view_is c.self.invariant c.place_of-place.ensures c.index_mut.ensures.value)

pub index-requires-2 : goal.index-requires-2
index-requires-2 c = omega (arith, clock_within c.self.inside _ c.place_of-place.result c.args.node c.self.view_is c.self.invariant c.place_of-place.ensures, c.self.inside.clocks.ok)

pub invariant_of-self-in_err-effects : goal.invariant_of-self-in_err-effects
invariant_of-self-in_err-effects c =
    gave_up c.self.inside _ c.place_of-place.result c.index_mut.result.now c.tick.new.self c.self.invariant refl refl refl refl refl refl refl c.index_mut.ensures.value c.in_err-effects.ensures.err

pub take_of-requires-clause-planned : goal.take_of-requires-clause-planned
take_of-requires-clause-planned c =
    subst (λ (p : Planning). IsSome p.next)
    (sym (at_set c.self.inside.nodes.items c.place_of-place.result c.tick.new.self c.index_mut-2.result.now (node_within c.self.inside _ c.place_of-place.result c.args.node c.self.view_is c.self.invariant c.place_of-place.ensures) c.index_mut-2.ensures.value ∙ c.in_ok-effects.ensures.planned)) refl

pub returns : goal.returns
returns c =
    let here = node_at c.self.inside c.args.self.now c.place_of-place.result c.args.node c.index_mut.result.now c.self.view_is c.self.invariant c.place_of-place.ensures c.index_mut.ensures.value in
    acts_returns c.self.inside _ c.args.event.value c.of-step.result c.place_of-place.result (after_tick c.index_mut.result.now.now) c.index_mut-2.result.now c.take_of.new.node c.take_of.new.net c.take_of.new.ledger c.take_of.result c.self.view_is c.self.invariant
    (subst (λ (s : EndStep). Acts c.self.inside c.args.self.now s c.place_of-place.result (after_tick c.index_mut.result.now.now))
    (ap (λ (n : ℕ). record { event = c.args.event; from = n; landing = None; effects = c.in_ok-effects.effects }) (sym c.number-number.ensures.same) ∙ sym c.of-step.ensures)
    (tick_acts c.self.inside c.args.self.now c.args.event.value c.args.node c.place_of-place.result c.index_mut.result.now.now c.in_ok-effects.effects c.self.view_is c.self.invariant c.place_of-place.ensures here (ap (λ (f : Facts). f.up) (node_at c.self.inside c.args.self.now c.place_of-place.result c.args.node c.index_mut.result.now c.self.view_is c.self.invariant c.place_of-place.ensures c.index_mut.ensures.value ∙ sym (node_at c.self.inside c.args.self.now c.place_of-place.result c.args.node c.index.result.now c.self.view_is c.self.invariant c.place_of-place.ensures c.index.ensures)) ∙ sym c.is_up.ensures ∙ c.if-not-is_up.false) c.requires.is (record { positive = omega (arith, c.number-number.ensures.same, c.number-number.ensures.range); fits = omega (arith, c.number-number.ensures.same, c.number-number.type_inv) }) c.in_ok-effects.ensures.effects))
    (ap (λ (s : EndStep). s.event.value) c.of-step.ensures)
    c.take_of.ensures.wrote c.take_of.ensures.within c.take_of.ensures.too_long c.take_of.ensures.err

pub invariant_of-self-2 : goal.invariant_of-self-2
invariant_of-self-2 c =
    let here = node_at c.self.inside c.args.self.now c.place_of-place.result c.args.node c.index_mut.result.now c.self.view_is c.self.invariant c.place_of-place.ensures c.index_mut.ensures.value in
    acts_kept c.self.inside _ c.args.self.now c.args.event.value c.of-step.result c.place_of-place.result (after_tick c.index_mut.result.now.now) c.index_mut.result.now c.tick.new.self c.index_mut-2.result.now c.take_of.new.node c.take_of.result c.self.view_is c.self.invariant
    (subst (λ (s : EndStep). Acts c.self.inside c.args.self.now s c.place_of-place.result (after_tick c.index_mut.result.now.now))
    (ap (λ (n : ℕ). record { event = c.args.event; from = n; landing = None; effects = c.in_ok-effects.effects }) (sym c.number-number.ensures.same) ∙ sym c.of-step.ensures)
    (tick_acts c.self.inside c.args.self.now c.args.event.value c.args.node c.place_of-place.result c.index_mut.result.now.now c.in_ok-effects.effects c.self.view_is c.self.invariant c.place_of-place.ensures here (ap (λ (f : Facts). f.up) (node_at c.self.inside c.args.self.now c.place_of-place.result c.args.node c.index_mut.result.now c.self.view_is c.self.invariant c.place_of-place.ensures c.index_mut.ensures.value ∙ sym (node_at c.self.inside c.args.self.now c.place_of-place.result c.args.node c.index.result.now c.self.view_is c.self.invariant c.place_of-place.ensures c.index.ensures)) ∙ sym c.is_up.ensures ∙ c.if-not-is_up.false) c.requires.is (record { positive = omega (arith, c.number-number.ensures.same, c.number-number.ensures.range); fits = omega (arith, c.number-number.ensures.same, c.number-number.type_inv) }) c.in_ok-effects.ensures.effects))
    (ap (λ (s : EndStep). s.event.value) c.of-step.ensures) c.requires.comes
    refl refl refl refl refl
    (node_within c.self.inside _ c.place_of-place.result c.args.node c.self.view_is c.self.invariant c.place_of-place.ensures)
    c.index_mut.ensures.value c.in_ok-effects.ensures.planned c.index_mut-2.ensures.value
    c.take_of.ensures.numbers c.take_of.ensures.node c.take_of.ensures.net c.take_of.ensures.wrote c.take_of.ensures.within c.take_of.ensures.err
