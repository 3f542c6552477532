use Rattle.std.proofs.Common.{◌≡◌, true, IfOk, OnErr, OnOk, length, refl, sym, ap, subst, ◌∙◌}
use Rattle.wire_messages.specs.Rows.{IsRow}
use Rattle.node_rules.specs.Facts.{Facts}
use Rattle.node_rules.specs.Notes.{in_view}
use Rattle.node_rules.specs.Steps.{Planning, planning}
use Rattle.node_steps.specs.declared.effects.Effects.{Effects}
use Rattle.node_steps.specs.Ranges.{HasRanges}
use Rattle.node_steps.specs.Spelled.{spelled}
use Rattle.node_core.proofs.HandlerLaws.{in_one, still}
use Rattle.node_steps.proofs.RowMessageLaws.{key_fits, progress_after, progress_told, same_progress}
use Rattle.node_steps.proofs.StepRanges.{progressed_ranges}
use Rattle.node_core.proofs.node.Node.on_progress.Goals as goal

pub progress_effects-requires-clause-key : goal.progress_effects-requires-clause-key
progress_effects-requires-clause-key c =
    key_fits c.args.self.now.now c.in-Some.view.now c.args.key c.in-Some.ensures.view.viewed (sym c.in-Some.ensures.some) c.requires.proper.0

pub progress_effects-requires-clause-own_handed : goal.progress_effects-requires-clause-own_handed
progress_effects-requires-clause-own_handed c =
    let ranges : HasRanges c.args.self.now.now = subst (λ (p : Planning). HasRanges p.now) c.self.view_is c.self.invariant.0.ranges in
    record { size = ap (λ (g : Facts). length g.bits.handed) c.in-Some.ensures.view.viewed.view ∙ ranges.bits.handed }

pub progress_effects-requires-clause-own_settled : goal.progress_effects-requires-clause-own_settled
progress_effects-requires-clause-own_settled c =
    let ranges : HasRanges c.args.self.now.now = subst (λ (p : Planning). HasRanges p.now) c.self.view_is c.self.invariant.0.ranges in
    record { size = ap (λ (g : Facts). length g.bits.settled) c.in-Some.ensures.view.viewed.view ∙ ranges.bits.settled }

pub plan_step-requires-clause-fits : goal.plan_step-requires-clause-fits
plan_step-requires-clause-fits c =
    let of_view : in_view c.args.self.now.now c.args.key ≡ true = sym c.in-Some.ensures.some in
    record { step = c.requires.sender.member c.args.key refl of_view; in_one = in_one c.args.self.now.now c.args.key of_view }

pub plan_step-requires-clause-ranges : goal.plan_step-requires-clause-ranges
plan_step-requires-clause-ranges c =
    progressed_ranges c.args.self.now.now c.args.from c.in_ok-new.field-0 c.in_ok-new-2.field-0 c.in_ok-new-3.field-0
    (subst IsRow (sym c.in_ok-new-2.ensures) c.requires.proper.2) (subst IsRow (sym c.in_ok-new-3.ensures) c.requires.proper.3)
    (subst (λ (p : Planning). HasRanges p.now) c.self.view_is c.self.invariant.0.ranges)

pub returns-clause-effects : goal.returns-clause-effects
returns-clause-effects c =
    let f = c.args.self.now.now in
    let told_so = c.in_ok-out.ensures f c.args.done.now c.in-Some.ensures.view
    ∙ ap spelled (progress_told f c.args.from c.args.key c.args.wants c.args.done.now c.args.handed.now c.args.settled.now (sym c.in-Some.ensures.some)) in
    subst (λ (e : Effects). IfOk c.plan_step.result (λ r. r ≡ e)) told_so c.plan_step.ensures.same

pub returns-clause-planned : goal.returns-clause-planned
returns-clause-planned c =
    let f = c.args.self.now.now in
    let after = ap (planning f)
    (same_progress f c.args.from c.in_ok-new.field-0 c.in_ok-new-2.field-0 c.in_ok-new-3.field-0 c.args.done.now c.args.handed.now c.args.settled.now c.in_ok-new.ensures c.in_ok-new-2.ensures c.in_ok-new-3.ensures
    ∙ sym (progress_after f c.args.from c.args.key c.args.wants c.args.done.now c.args.handed.now c.args.settled.now (sym c.in-Some.ensures.some))) in
    subst (λ (q : Planning). OnOk c.plan_step.result (c.plan_step.new.self ≡ q)) after c.plan_step.ensures.planned

pub returns-clause-err : goal.returns-clause-err
returns-clause-err c =
    subst (λ (q : Planning). OnErr c.plan_step.result (c.plan_step.new.self ≡ q)) (still c.args.self.now c.requires.unplanned) c.plan_step.ensures.err
