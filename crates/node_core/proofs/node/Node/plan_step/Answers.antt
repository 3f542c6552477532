use Rattle.std.proofs.Common.{ap, subst, sym, ◌∙◌}
use Rattle.node_rules.specs.Steps.{planning}
use Rattle.node_view.specs.declared.view_step.ViewStep.{ViewStep}
use Rattle.node_view.specs.Plans.{view_taken}
use Rattle.node_steps.specs.Fits.{FitsView}
use Rattle.node_steps.specs.Ranges.{HasRanges}
use Rattle.node_steps.specs.Viewing.{NeedsNoRoom}
use Rattle.node_core.proofs.node.Node.plan_step.Goals as goal

pub plan-requires-clause-fits : goal.plan-requires-clause-fits
plan-requires-clause-fits c = subst (FitsView c.args.self.now.now) (sym c.in_ok-step.ensures.ok) c.requires.fits

pub plan-requires-clause-ranges : goal.plan-requires-clause-ranges
plan-requires-clause-ranges c = subst (λ (s : ViewStep). HasRanges (view_taken c.args.self.now.now s)) (sym c.in_ok-step.ensures.ok) c.requires.ranges

pub plan-requires-clause-room : goal.plan-requires-clause-room
plan-requires-clause-room c = subst NeedsNoRoom (sym c.in_ok-step.ensures.ok) c.requires.room

pub returns-clause-planned : goal.returns-clause-planned
returns-clause-planned c =
    let f = c.args.self.now.now in
    c.plan.ensures.planned ∙ ap (λ (s : ViewStep). planning f (view_taken f s)) c.in_ok-step.ensures.ok
