use Rattle.std.proofs.Common.{ap, ◌∙◌}
use Rattle.node_steps.specs.declared.resolving.Resolving.{Resolving}
use Rattle.node_steps.specs.Resolvings.{due_outcome}
use Rattle.node_steps.specs.Spelled.{then_effects}
use Rattle.node_steps.proofs.WritingLaws.{outcome_asked, some_asked, told_asked, told_resolved}
use Rattle.node_steps.proofs.resolving.plan_asking.Goals as goal

pub returns-then-is_empty-clause-effects : goal.returns-then-is_empty-clause-effects
returns-then-is_empty-clause-effects c = λ f h.
    let r = c.args.opening.now in
    c.in_ok-outcome.ensures.effects f h
    ∙ ap (λ (x : Resolving). then_effects c.args.out.now
    (due_outcome f x)) c.in_ok-resolving.ensures
    ∙ ap (then_effects c.args.out.now) (told_resolved f r c.args.asked.now (c.is_empty.ensures.0 c.if-is_empty.true))

pub returns-clause-effects : goal.returns-clause-effects
returns-clause-effects c = λ f h.
    let some = some_asked c.args.asked.now c.is_empty.result c.if-is_empty.false c.is_empty.ensures in
    rw (c.in_ok-send_to_each.ensures, c.as_slice.ensures.same, c.key.ensures)
    (told_asked c.args.out.now f c.args.view.now c.args.opening.now c.args.asked.now h.view.viewed some)

pub returns-clause-outcome : goal.returns-clause-outcome
returns-clause-outcome c =
    outcome_asked c.args.view.now c.args.opening.now c.args.asked.now (some_asked c.args.asked.now c.is_empty.result c.if-is_empty.false c.is_empty.ensures)
