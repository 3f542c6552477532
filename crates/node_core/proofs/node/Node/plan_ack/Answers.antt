use Rattle.std.proofs.Common.{◌≡◌, ℕ, [], ◌∷◌, Bool, IfOk, sym, ap, subst, ◌∙◌}
use Rattle.journal_lines.specs.declared.line.Line.TheVariants as line
use Rattle.node_rules.specs.Effects.{lines_only}
use Rattle.node_rules.specs.Steps.{Planning}
use Rattle.node_rules.specs.Tables.{only_if}
use Rattle.node_steps.specs.declared.effects.Effects.{Effects}
use Rattle.node_steps.specs.Ranges.{HasRanges}
use Rattle.node_steps.specs.Spelled.{spelled}
use Rattle.node_steps.proofs.RangeLaws.{ranges_acked, ranges_closed}
use Rattle.node_core.proofs.node.Node.plan_ack.Goals as goal

pub plan_step-requires-clause-fits : goal.plan_step-requires-clause-fits
plan_step-requires-clause-fits c = record { step = tt; in_one = c.requires.in_one }

pub plan_step-requires-clause-ranges : goal.plan_step-requires-clause-ranges
plan_step-requires-clause-ranges c = ranges_acked c.args.self.now.now c.args.from c.args.transaction (subst (λ (p : Planning). HasRanges p.now) c.self.view_is c.self.invariant.0.ranges)

pub plan_step-requires-2-clause-fits : goal.plan_step-requires-2-clause-fits
plan_step-requires-2-clause-fits c = record { step = c.requires.open_one; in_one = c.requires.in_one }

pub plan_step-requires-2-clause-ranges : goal.plan_step-requires-2-clause-ranges
plan_step-requires-2-clause-ranges c = ranges_closed c.args.self.now.now c.args.transaction (subst (λ (p : Planning). HasRanges p.now) c.self.view_is c.self.invariant.0.ranges)

pub returns-clause-effects : goal.returns-clause-effects
returns-clause-effects c =
    let key = c.args.key in
    let number = c.args.transaction in
    let told : ℕ → Effects = λ (n : ℕ). record { lines = line.Done n key number ∷ []; sends = [] } in
    let told_so = c.in_ok-out.ensures ∙ ap (λ (p : Planning). told p.now.me) c.self.view_is
    ∙ ap (λ (b : Bool). spelled (lines_only (only_if (line.Done c.args.self.now.now.me key number) b))) (sym c.if-not-is_last.false) in
    subst (λ (e : Effects). IfOk c.plan_step-2.result (λ r. r ≡ e)) told_so c.plan_step-2.ensures.same
