use Rattle.std.proofs.Common.{ℕ, [], ◌∷◌, ap, ◌∙◌}
use Rattle.journal_lines.specs.declared.line.Line.TheVariants as line
use Rattle.node_rules.specs.Steps.{Planning}
use Rattle.node_steps.specs.declared.effects.Effects.{Effects}
use Rattle.node_core.proofs.node.Node.stale.Goals as goal

pub returns-clause-effects : goal.returns-clause-effects
returns-clause-effects c =
    let told : ℕ → Effects = λ (n : ℕ). record { lines = line.Stale n ∷ []; sends = [] } in
    c.plan.ensures.same ∙ c.in_ok-out.ensures ∙ ap told c.number-endpoint.ensures.same ∙ ap (λ (p : Planning). told p.now.me) c.self.view_is
