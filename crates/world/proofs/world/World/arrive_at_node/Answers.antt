use Rattle.std.proofs.Common.{◌≡◌, List, [], ◌∷◌, ap, refl, sym, subst, ◌∙◌, arith}
use Rattle.std.specs.Prelude.{IsSome}
use Rattle.journal_lines.specs.declared.line.Line.{Line}
use Rattle.node_rules.specs.Steps.{Planning, after_message}
use Rattle.world.proofs.ActsLaws.{Acts, acts_kept, acts_returns, arrival_acts, arrival_flies, effects_none, no_effects, gave_up, knows_as_before, may_receive}
use Rattle.world.proofs.KeepLaws.{clock_at, clock_within, node_at, node_within, step_refused}
use Rattle.world.proofs.Places.{at_set}
use Rattle.world.proofs.world.World.arrive_at_node.Goals as goal

pub index_mut-requires : goal.index_mut-requires
index_mut-requires c = omega (arith, node_within c.self.inside _ c.args.place c.args.arriving.to c.self.view_is c.self.invariant c.requires.end, c.self.inside.nodes.ok)

pub index_mut-requires-2 : goal.index_mut-requires-2
index_mut-requires-2 c = omega (arith, node_within c.self.inside _ c.args.place c.args.arriving.to c.self.view_is c.self.invariant c.requires.end, c.self.inside.nodes.ok)

pub index_mut-requires-then-is_empty-2 : goal.index_mut-requires-then-is_empty-2
index_mut-requires-then-is_empty-2 c = omega (arith, node_within c.self.inside _ c.args.place c.args.arriving.to c.self.view_is c.self.invariant c.requires.end, c.self.inside.nodes.ok)

pub index-requires : goal.index-requires
index-requires c = omega (arith, clock_within c.self.inside _ c.args.place c.args.arriving.to c.self.view_is c.self.invariant c.requires.end, c.self.inside.clocks.ok)

pub receive-requires-clause-up : goal.receive-requires-clause-up
receive-requires-clause-up c = (may_receive c.self.inside c.args.self.now c.args.arriving c.args.place c.index_mut.result.now.now c.self.view_is c.self.invariant c.requires.arrives c.requires.end (node_at c.self.inside c.args.self.now c.args.place c.args.arriving.to c.index_mut.result.now c.self.view_is c.self.invariant c.requires.end c.index_mut.ensures.value)).up

pub receive-requires-clause-proper : goal.receive-requires-clause-proper
receive-requires-clause-proper c = (may_receive c.self.inside c.args.self.now c.args.arriving c.args.place c.index_mut.result.now.now c.self.view_is c.self.invariant c.requires.arrives c.requires.end (node_at c.self.inside c.args.self.now c.args.place c.args.arriving.to c.index_mut.result.now c.self.view_is c.self.invariant c.requires.end c.index_mut.ensures.value)).proper

pub receive-requires-clause-sender : goal.receive-requires-clause-sender
receive-requires-clause-sender c = (may_receive c.self.inside c.args.self.now c.args.arriving c.args.place c.index_mut.result.now.now c.self.view_is c.self.invariant c.requires.arrives c.requires.end (node_at c.self.inside c.args.self.now c.args.place c.args.arriving.to c.index_mut.result.now c.self.view_is c.self.invariant c.requires.end c.index_mut.ensures.value)).sender

pub receive-requires-clause-counts : goal.receive-requires-clause-counts
receive-requires-clause-counts c = (may_receive c.self.inside c.args.self.now c.args.arriving c.args.place c.index_mut.result.now.now c.self.view_is c.self.invariant c.requires.arrives c.requires.end (node_at c.self.inside c.args.self.now c.args.place c.args.arriving.to c.index_mut.result.now c.self.view_is c.self.invariant c.requires.end c.index_mut.ensures.value)).counts

pub invariant_of-self : goal.invariant_of-self
invariant_of-self c =
    gave_up c.self.inside _ c.args.place c.index_mut.result.now c.receive.new.node c.self.invariant refl refl refl refl refl refl refl c.index_mut.ensures.value c.in_err-effects.ensures.err

pub returns-in_err-effects : goal.returns-in_err-effects
returns-in_err-effects c =
    step_refused c.self.inside _ c.self.inside.ledger c.args.arriving.event.value c.from_residual.result c.self.view_is (record { lines = refl; events = refl }) c.from_residual.ensures

pub invariant_of-self-in_err-lines : goal.invariant_of-self-in_err-lines
invariant_of-self-in_err-lines c =
    knows_as_before c.self.inside _ c.args.place c.index_mut.result.now c.receive.new.node c.self.invariant refl refl refl refl refl refl refl c.index_mut.ensures.value (ap (λ (p : Planning). p.now) c.in_ok-effects.ensures.planned)

pub returns-in_err-lines : goal.returns-in_err-lines
returns-in_err-lines c =
    step_refused c.self.inside _ c.self.inside.ledger c.args.arriving.event.value c.from_residual-in_err-lines.result c.self.view_is (record { lines = refl; events = refl }) c.from_residual-in_err-lines.ensures

pub take_of-requires-2-clause-planned : goal.take_of-requires-2-clause-planned
take_of-requires-2-clause-planned c =
    subst (λ (p : Planning). IsSome p.next)
    (sym (at_set c.self.inside.nodes.items c.args.place c.receive.new.node c.index_mut-2.result.now (node_within c.self.inside _ c.args.place c.args.arriving.to c.self.view_is c.self.invariant c.requires.end) c.index_mut-2.ensures.value ∙ c.in_ok-effects.ensures.planned)) refl

pub take_of-requires-2-clause-flying : goal.take_of-requires-2-clause-flying
take_of-requires-2-clause-flying c = arrival_flies c.self.inside _ c.args.arriving c.self.view_is c.self.invariant c.requires.arrives

pub returns : goal.returns
returns c =
    let here = node_at c.self.inside c.args.self.now c.args.place c.args.arriving.to c.index_mut.result.now c.self.view_is c.self.invariant c.requires.end c.index_mut.ensures.value in
    acts_returns c.self.inside _ c.args.arriving.event.value (record { event = c.args.arriving.event; from = c.args.arriving.to; landing = c.args.arriving.landing; effects = record { lines = c.in_ok-lines.lines; sends = c.in_ok-effects.effects.sends } }) c.args.place (after_message c.index_mut.result.now.now c.index.result.now c.args.arriving.from c.args.arriving.message) c.index_mut-2.result.now c.take_of-2.new.node c.take_of-2.new.net c.take_of-2.new.ledger c.take_of-2.result c.self.view_is c.self.invariant
    (subst (λ (ls : List Line). Acts c.self.inside c.args.self.now (record { event = c.args.arriving.event; from = c.args.arriving.to; landing = c.args.arriving.landing; effects = record { lines = ls; sends = c.in_ok-effects.effects.sends } }) c.args.place (after_message c.index_mut.result.now.now c.index.result.now c.args.arriving.from c.args.arriving.message)) (sym c.in_ok-lines.ensures)
    (arrival_acts c.self.inside c.args.self.now c.args.arriving c.args.place c.index.result.now c.index_mut.result.now.now c.in_ok-effects.effects c.self.view_is c.self.invariant c.requires.arrives c.requires.end here
    (c.index.ensures ∙ clock_at c.self.inside c.args.self.now c.args.place c.args.arriving.to c.index.result.now c.self.view_is c.self.invariant c.requires.end)
    c.in_ok-effects.ensures.effects))
    refl
    c.take_of-2.ensures.wrote c.take_of-2.ensures.within c.take_of-2.ensures.too_long c.take_of-2.ensures.err

pub invariant_of-self-2 : goal.invariant_of-self-2
invariant_of-self-2 c =
    let here = node_at c.self.inside c.args.self.now c.args.place c.args.arriving.to c.index_mut.result.now c.self.view_is c.self.invariant c.requires.end c.index_mut.ensures.value in
    acts_kept c.self.inside _ c.args.self.now c.args.arriving.event.value (record { event = c.args.arriving.event; from = c.args.arriving.to; landing = c.args.arriving.landing; effects = record { lines = c.in_ok-lines.lines; sends = c.in_ok-effects.effects.sends } }) c.args.place (after_message c.index_mut.result.now.now c.index.result.now c.args.arriving.from c.args.arriving.message) c.index_mut.result.now c.receive.new.node c.index_mut-2.result.now c.take_of-2.new.node c.take_of-2.result c.self.view_is c.self.invariant
    (subst (λ (ls : List Line). Acts c.self.inside c.args.self.now (record { event = c.args.arriving.event; from = c.args.arriving.to; landing = c.args.arriving.landing; effects = record { lines = ls; sends = c.in_ok-effects.effects.sends } }) c.args.place (after_message c.index_mut.result.now.now c.index.result.now c.args.arriving.from c.args.arriving.message)) (sym c.in_ok-lines.ensures)
    (arrival_acts c.self.inside c.args.self.now c.args.arriving c.args.place c.index.result.now c.index_mut.result.now.now c.in_ok-effects.effects c.self.view_is c.self.invariant c.requires.arrives c.requires.end here
    (c.index.ensures ∙ clock_at c.self.inside c.args.self.now c.args.place c.args.arriving.to c.index.result.now c.self.view_is c.self.invariant c.requires.end)
    c.in_ok-effects.ensures.effects))
    refl c.requires.comes
    refl refl refl refl refl
    (node_within c.self.inside _ c.args.place c.args.arriving.to c.self.view_is c.self.invariant c.requires.end)
    c.index_mut.ensures.value c.in_ok-effects.ensures.planned c.index_mut-2.ensures.value
    c.take_of-2.ensures.numbers c.take_of-2.ensures.node c.take_of-2.ensures.net c.take_of-2.ensures.wrote c.take_of-2.ensures.within c.take_of-2.ensures.err

-- ---- a step of one line

pub take_of-requires : goal.take_of-requires
take_of-requires c = record {
  planned =
      subst (λ (p : Planning). IsSome p.next)
      (sym (at_set c.self.inside.nodes.items c.args.place c.receive.new.node c.index_mut-then-is_empty-2.result.now (node_within c.self.inside _ c.args.place c.args.arriving.to c.self.view_is c.self.invariant c.requires.end) c.index_mut-then-is_empty-2.ensures.value ∙ c.in_ok-effects.ensures.planned)) refl;
}

pub returns-then-is_empty-2 : goal.returns-then-is_empty-2
returns-then-is_empty-2 c =
    let here = node_at c.self.inside c.args.self.now c.args.place c.args.arriving.to c.index_mut.result.now c.self.view_is c.self.invariant c.requires.end c.index_mut.ensures.value in
    let quiet : c.in_ok-effects.effects ≡ no_effects = effects_none c.in_ok-effects.effects (c.is_empty.ensures.0 c.if-is_empty.true) (c.is_empty-then-is_empty.ensures.0 c.if-is_empty-2.true) in
    acts_returns c.self.inside _ c.args.arriving.event.value (record { event = c.args.arriving.event; from = c.args.arriving.to; landing = c.args.arriving.landing; effects = record { lines = c.args.arriving.line ∷ []; sends = [] } }) c.args.place (after_message c.index_mut.result.now.now c.index.result.now c.args.arriving.from c.args.arriving.message) c.index_mut-then-is_empty-2.result.now c.take_of.new.endpoint c.take_of.new.net c.take_of.new.ledger c.take_of.result c.self.view_is c.self.invariant
    (arrival_acts c.self.inside c.args.self.now c.args.arriving c.args.place c.index.result.now c.index_mut.result.now.now no_effects c.self.view_is c.self.invariant c.requires.arrives c.requires.end here
    (c.index.ensures ∙ clock_at c.self.inside c.args.self.now c.args.place c.args.arriving.to c.index.result.now c.self.view_is c.self.invariant c.requires.end)
    (sym quiet ∙ c.in_ok-effects.ensures.effects))
    refl
    c.take_of.ensures.wrote c.take_of.ensures.within c.take_of.ensures.too_long c.take_of.ensures.err

pub invariant_of-self-then-is_empty-2 : goal.invariant_of-self-then-is_empty-2
invariant_of-self-then-is_empty-2 c =
    let here = node_at c.self.inside c.args.self.now c.args.place c.args.arriving.to c.index_mut.result.now c.self.view_is c.self.invariant c.requires.end c.index_mut.ensures.value in
    let quiet : c.in_ok-effects.effects ≡ no_effects = effects_none c.in_ok-effects.effects (c.is_empty.ensures.0 c.if-is_empty.true) (c.is_empty-then-is_empty.ensures.0 c.if-is_empty-2.true) in
    acts_kept c.self.inside _ c.args.self.now c.args.arriving.event.value (record { event = c.args.arriving.event; from = c.args.arriving.to; landing = c.args.arriving.landing; effects = record { lines = c.args.arriving.line ∷ []; sends = [] } }) c.args.place (after_message c.index_mut.result.now.now c.index.result.now c.args.arriving.from c.args.arriving.message) c.index_mut.result.now c.receive.new.node c.index_mut-then-is_empty-2.result.now c.take_of.new.endpoint c.take_of.result c.self.view_is c.self.invariant
    (arrival_acts c.self.inside c.args.self.now c.args.arriving c.args.place c.index.result.now c.index_mut.result.now.now no_effects c.self.view_is c.self.invariant c.requires.arrives c.requires.end here
    (c.index.ensures ∙ clock_at c.self.inside c.args.self.now c.args.place c.args.arriving.to c.index.result.now c.self.view_is c.self.invariant c.requires.end)
    (sym quiet ∙ c.in_ok-effects.ensures.effects))
    refl c.requires.comes
    refl refl refl refl refl
    (node_within c.self.inside _ c.args.place c.args.arriving.to c.self.view_is c.self.invariant c.requires.end)
    c.index_mut.ensures.value c.in_ok-effects.ensures.planned c.index_mut-then-is_empty-2.ensures.value
    c.take_of.ensures.numbers c.take_of.ensures.node c.take_of.ensures.net c.take_of.ensures.wrote c.take_of.ensures.within c.take_of.ensures.err
