use Rattle.std.proofs.Common.{ℕ, None, ap, refl, sym, subst, ◌∙◌, arith}
use Rattle.std.specs.Prelude.{IsSome}
use Rattle.node_rules.specs.Steps.{Planning, after_request}
use Rattle.world.specs.declared.taking.EndStep.{EndStep}
use Rattle.world.proofs.ActsLaws.{Acts, acts_kept, acts_returns, counts_of, gave_up, request_acts, request_named}
use Rattle.world.proofs.KeepLaws.{clock_at, clock_within, node_at, node_within}
use Rattle.world.proofs.Places.{at_set}
use Rattle.world.proofs.world.World.request.Goals as goal

pub place_of-place-requires : goal.place_of-place-requires
place_of-place-requires c = request_named _ c.args.event.value c.args.node c.args.digest c.args.want c.requires.is c.requires.comes

pub index_mut-requires : goal.index_mut-requires
index_mut-requires c = omega (arith, node_within c.self.inside _ c.place_of-place.result c.args.node c.self.view_is c.self.invariant c.place_of-place.ensures, c.self.inside.nodes.ok)

pub index_mut-requires-2 : goal.index_mut-requires-2
index_mut-requires-2 c = omega (arith, node_within c.self.inside _ c.place_of-place.result c.args.node c.self.view_is c.self.invariant c.place_of-place.ensures, c.self.inside.nodes.ok)

pub index-requires : goal.index-requires
index-requires c = omega (arith, clock_within c.self.inside _ c.place_of-place.result c.args.node c.self.view_is c.self.invariant c.place_of-place.ensures, c.self.inside.clocks.ok)

pub request-requires : goal.request-requires
request-requires c = record {
  counts = counts_of c.self.inside _ c.args.node c.index_mut.result.now.now c.self.view_is c.self.invariant (node_at c.self.inside c.args.self.now c.place_of-place.result c.args.node c.index_mut.result.now c.self.view_is c.self.invariant c.place_of-place.ensures c.index_mut.ensures.value);
}

pub invariant_of-self : goal.invariant_of-self
invariant_of-self c =
    gave_up c.self.inside _ c.place_of-place.result c.index_mut.result.now c.request.new.self c.self.invariant refl refl refl refl refl refl refl c.index_mut.ensures.value c.in_err-effects.ensures.err

pub take_of-requires-clause-planned : goal.take_of-requires-clause-planned
take_of-requires-clause-planned c =
    subst (λ (p : Planning). IsSome p.next)
    (sym (at_set c.self.inside.nodes.items c.place_of-place.result c.request.new.self c.index_mut-2.result.now (node_within c.self.inside _ c.place_of-place.result c.args.node c.self.view_is c.self.invariant c.place_of-place.ensures) c.index_mut-2.ensures.value ∙ c.in_ok-effects.ensures.planned)) refl

pub returns : goal.returns
returns c =
    let here = node_at c.self.inside c.args.self.now c.place_of-place.result c.args.node c.index_mut.result.now c.self.view_is c.self.invariant c.place_of-place.ensures c.index_mut.ensures.value in
    acts_returns c.self.inside _ c.args.event.value c.of-step.result c.place_of-place.result (after_request c.index_mut.result.now.now c.index.result.now c.args.digest c.args.want) c.index_mut-2.result.now c.take_of.new.node c.take_of.new.net c.take_of.new.ledger c.take_of.result c.self.view_is c.self.invariant
    (subst (λ (s : EndStep). Acts c.self.inside c.args.self.now s c.place_of-place.result (after_request c.index_mut.result.now.now c.index.result.now c.args.digest c.args.want))
    (ap (λ (n : ℕ). record { event = c.args.event; from = n; landing = None; effects = c.in_ok-effects.effects }) (sym c.number.ensures.same) ∙ sym c.of-step.ensures)
    (request_acts c.self.inside c.args.self.now c.args.event.value c.args.node c.place_of-place.result c.index.result.now c.args.digest c.args.want c.index_mut.result.now.now c.in_ok-effects.effects c.self.view_is c.self.invariant c.place_of-place.ensures here
    (c.index.ensures ∙ clock_at c.self.inside c.args.self.now c.place_of-place.result c.args.node c.index.result.now c.self.view_is c.self.invariant c.place_of-place.ensures)
    c.requires.is c.requires.proper c.in_ok-effects.ensures.effects))
    (ap (λ (s : EndStep). s.event.value) c.of-step.ensures)
    c.take_of.ensures.wrote c.take_of.ensures.within c.take_of.ensures.too_long c.take_of.ensures.err

pub invariant_of-self-2 : goal.invariant_of-self-2
invariant_of-self-2 c =
    let here = node_at c.self.inside c.args.self.now c.place_of-place.result c.args.node c.index_mut.result.now c.self.view_is c.self.invariant c.place_of-place.ensures c.index_mut.ensures.value in
    acts_kept c.self.inside _ c.args.self.now c.args.event.value c.of-step.result c.place_of-place.result (after_request c.index_mut.result.now.now c.index.result.now c.args.digest c.args.want) c.index_mut.result.now c.request.new.self c.index_mut-2.result.now c.take_of.new.node c.take_of.result c.self.view_is c.self.invariant
    (subst (λ (s : EndStep). Acts c.self.inside c.args.self.now s c.place_of-place.result (after_request c.index_mut.result.now.now c.index.result.now c.args.digest c.args.want))
    (ap (λ (n : ℕ). record { event = c.args.event; from = n; landing = None; effects = c.in_ok-effects.effects }) (sym c.number.ensures.same) ∙ sym c.of-step.ensures)
    (request_acts c.self.inside c.args.self.now c.args.event.value c.args.node c.place_of-place.result c.index.result.now c.args.digest c.args.want c.index_mut.result.now.now c.in_ok-effects.effects c.self.view_is c.self.invariant c.place_of-place.ensures here
    (c.index.ensures ∙ clock_at c.self.inside c.args.self.now c.place_of-place.result c.args.node c.index.result.now c.self.view_is c.self.invariant c.place_of-place.ensures)
    c.requires.is c.requires.proper c.in_ok-effects.ensures.effects))
    (ap (λ (s : EndStep). s.event.value) c.of-step.ensures) c.requires.comes
    refl refl refl refl refl
    (node_within c.self.inside _ c.place_of-place.result c.args.node c.self.view_is c.self.invariant c.place_of-place.ensures)
    c.index_mut.ensures.value c.in_ok-effects.ensures.planned c.index_mut-2.ensures.value
    c.take_of.ensures.numbers c.take_of.ensures.node c.take_of.ensures.net c.take_of.ensures.wrote c.take_of.ensures.within c.take_of.ensures.err
