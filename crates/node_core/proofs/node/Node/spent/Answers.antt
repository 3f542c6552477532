use Rattle.std.proofs.Common.{◌≡◌, ℕ, [], ◌∷◌, ap, subst, sym, ◌∙◌}
use Rattle.journal_lines.specs.declared.line.Line.TheVariants as line
use Rattle.node_rules.specs.Steps.{Planning, planning}
use Rattle.node_view.specs.declared.view_step.ViewStep.{ViewStep}
use Rattle.node_view.specs.Plans.{view_taken}
use Rattle.node_steps.specs.Fits.{FitsView}
use Rattle.node_steps.specs.Viewing.{NeedsNoRoom}
use Rattle.node_steps.specs.declared.effects.Effects.{Effects}
use Rattle.node_steps.specs.Ranges.{HasRanges}
use Rattle.node_core.proofs.node.Node.spent.Goals as goal

pub returns-clause-effects : goal.returns-clause-effects
returns-clause-effects c =
    let told : ℕ → Effects = λ (n : ℕ). record { lines = line.Spent n ∷ []; sends = [] } in
    let told_so = c.in_ok-out.ensures ∙ ap told c.number-endpoint.ensures.same ∙ ap (λ (p : Planning). told p.now.me) c.self.view_is in
    c.plan.ensures.same ∙ told_so

pub plan-requires-clause-fits : goal.plan-requires-clause-fits
plan-requires-clause-fits c = subst (FitsView c.args.self.now.now) (sym c.in_ok-step.ensures.ok) c.requires.fits

pub plan-requires-clause-ranges : goal.plan-requires-clause-ranges
plan-requires-clause-ranges c =
    subst (λ (s : ViewStep). HasRanges (view_taken c.args.self.now.now s)) (sym c.in_ok-step.ensures.ok)
    (c.requires.ranges (subst (λ (p : Planning). HasRanges p.now) c.self.view_is c.self.invariant.0.ranges))

pub plan-requires-clause-room : goal.plan-requires-clause-room
plan-requires-clause-room c = subst NeedsNoRoom (sym c.in_ok-step.ensures.ok) c.requires.room

pub returns-clause-planned : goal.returns-clause-planned
returns-clause-planned c =
    let f = c.args.self.now.now in
    c.plan.ensures.planned ∙ ap (λ (s : ViewStep). planning f (view_taken f s)) c.in_ok-step.ensures.ok
