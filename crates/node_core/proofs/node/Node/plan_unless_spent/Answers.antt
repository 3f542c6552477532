use Rattle.std.proofs.Common.{◌≡◌, Bool, IfOk, sym, ap, subst, ◌∙◌, if◌then◌else◌}
use Rattle.node_rules.specs.Effects.{nothing}
use Rattle.node_rules.specs.Messages.{spent}
use Rattle.node_rules.specs.Steps.{Planning}
use Rattle.node_steps.specs.declared.effects.Effects.{Effects}
use Rattle.node_steps.specs.Ranges.{HasRanges}
use Rattle.node_steps.specs.Spelled.{spelled}
use Rattle.node_core.proofs.node.Node.plan_unless_spent.Goals as goal

pub plan_step-requires-clause-ranges : goal.plan_step-requires-clause-ranges
plan_step-requires-clause-ranges c = c.requires.ranges (subst (λ (p : Planning). HasRanges p.now) c.self.view_is c.self.invariant.0.ranges)

pub returns-clause-effects : goal.returns-clause-effects
returns-clause-effects c =
    let told_so = c.new.ensures ∙ ap (λ (b : Bool). spelled (if b then nothing else spent c.args.self.now.now)) (sym c.if-not-is_awaited.false) in
    subst (λ (e : Effects). IfOk c.plan_step.result (λ r. r ≡ e)) told_so c.plan_step.ensures.same
