use Rattle.std.proofs.Common.{◌≡◌, true, Some, ap, subst, sym, ◌∙◌}
use Rattle.std.specs.Box.{with_value}
use Rattle.std.specs.Global.{Box}
use Rattle.std.specs.Option.{option_copied}
use Rattle.node_rules.specs.ByParts.{resolved_with}
use Rattle.node_rules.specs.Facts.{Facts}
use Rattle.node_rules.specs.Notes.{answer_came}
use Rattle.node_rules.specs.Steps.{Planning}
use Rattle.node_rules.specs.Transactions.{transaction}
use Rattle.node_view.specs.declared.view.View.{View}
use Rattle.node_view.specs.declared.view_step.ViewStep.{ViewStep}
use Rattle.node_view.specs.Fits.{FitsStep}
use Rattle.node_view.specs.Plans as plans
use Rattle.node_view.specs.Rooms.{HasRoomIn}
use Rattle.node_view.specs.Views.{IsInView, IsNodeInView, IsSame, Viewed}
use Rattle.node_steps.specs.declared.effects.Effects.{Effects}
use Rattle.node_steps.specs.declared.resolving.Resolving.{Resolving}
use Rattle.node_steps.specs.Counts.{HaveNumbers}
use Rattle.node_core.specs.Nodes.{node_facts}
use Rattle.node_steps.specs.Ranges.{HasRanges, IsResolvingField}
use Rattle.node_steps.specs.Resolvings.{due_outcome}
use Rattle.node_steps.specs.Spelled.{then_effects, spelled}
use Rattle.node_core.proofs.NodeLaws.{has_no_plan}
use Rattle.node_core.proofs.RoomLaws.{more_in_both, on_err_if, seen_still}
use Rattle.node_core.proofs.OpeningRooms.{in_its_view, room_alone, room_and_step, step_planned}
use Rattle.node_steps.proofs.OpeningLaws.{key_of_view, numbers_of}
use Rattle.node_steps.proofs.ResolveLaws.{answer_due, answered_found, answered_one, resolved_after, resolved_fits, resolved_spelled, resolving_spelled, room_found, step_made}
use Rattle.node_core.proofs.node.Node.plan_last_answer.Goals as goal

pub plan_outcome-requires-clause-counts : goal.plan_outcome-requires-clause-counts
plan_outcome-requires-clause-counts c =
    let numbers : HaveNumbers (node_facts c.self.inside) = subst (λ (p : Planning). HaveNumbers p.now) (sym c.self.view_is) c.requires.counts in
    rw c.deref_mut.ensures.value (numbers_of (node_facts c.self.inside) c.in-Some.view.value (c.self.invariant.0.view c.in-Some.view c.in-Some.is).view.viewed numbers)

pub plan_outcome-requires-clause-key : goal.plan_outcome-requires-clause-key
plan_outcome-requires-clause-key c =
    rw c.deref_mut.ensures.value (key_of_view (node_facts c.self.inside) c.in-Some.view.value (c.self.invariant.0.view c.in-Some.view c.in-Some.is).view.viewed
    (in_its_view c.self.inside c.in-Some.view c.self.invariant.0 c.in-Some.is) c.self.invariant.0.ranges)

pub plan_outcome-requires-clause-fields : goal.plan_outcome-requires-clause-fields
plan_outcome-requires-clause-fields c =
    let f = c.args.self.now.now in
    let v = option_copied c.args.version in
    let one = answered_one f c.args.from c.args.transaction c.requires.last in
    let ranges : HasRanges f = subst (λ (p : Planning). HasRanges p.now) c.self.view_is c.self.invariant.0.ranges in
    let is = answered_found f.transactions c.args.transaction c.args.clock f.store.by v one.0 c.in_ok-resolving.resolving one.1.found c.in_ok-resolving.ensures in
    subst IsResolvingField (sym is) (resolving_spelled f c.args.clock c.args.from c.args.transaction v one.0 one.1 ranges c.requires.answer c.ranges.clock.fits)

pub invariant_of-self : goal.invariant_of-self
invariant_of-self c =
    let same : IsSame c.in-Some.view.value c.plan_outcome.new.view = subst (λ (v : Viewed). IsSame v c.plan_outcome.new.view) c.deref_mut.ensures.value c.in_err-outcome.ensures.same in
    room_alone c.self.inside c.in-Some.view (with_value c.in-Some.view c.plan_outcome.new.view) c.plan_outcome.new.store c.self.invariant.0
    (has_no_plan c.self.inside c.args.self.now c.self.view_is c.requires.unplanned) c.in-Some.is same c.in_err-outcome.ensures.kept

pub returns-in_err-outcome-clause-err : goal.returns-in_err-outcome-clause-err
returns-in_err-outcome-clause-err c =
    let n = c.self.inside in
    let v = c.in-Some.view in
    let same : IsSame v.value c.plan_outcome.new.view = subst (λ (u : Viewed). IsSame u c.plan_outcome.new.view) c.deref_mut.ensures.value c.in_err-outcome.ensures.same in
    let w : Box View = with_value v c.plan_outcome.new.view in
    on_err_if c.from_residual-in_err-outcome.result _
    (seen_still n (Some w) c.plan_outcome.new.store c.args.self.now c.self.view_is (more_in_both n v w c.plan_outcome.new.store c.in-Some.is same c.in_err-outcome.ensures.kept))

pub invariant_of-self-in_err-step : goal.invariant_of-self-in_err-step
invariant_of-self-in_err-step c =
    let same : IsSame c.in-Some.view.value c.plan_outcome.new.view = subst (λ (v : Viewed). IsSame v c.plan_outcome.new.view) c.deref_mut.ensures.value c.in_ok-outcome.ensures.same in
    room_alone c.self.inside c.in-Some.view (with_value c.in-Some.view c.plan_outcome.new.view) c.plan_outcome.new.store c.self.invariant.0
    (has_no_plan c.self.inside c.args.self.now c.self.view_is c.requires.unplanned) c.in-Some.is same c.in_ok-outcome.ensures.kept

pub returns-in_err-step-clause-err : goal.returns-in_err-step-clause-err
returns-in_err-step-clause-err c =
    let n = c.self.inside in
    let v = c.in-Some.view in
    let same : IsSame v.value c.plan_outcome.new.view = subst (λ (u : Viewed). IsSame u c.plan_outcome.new.view) c.deref_mut.ensures.value c.in_ok-outcome.ensures.same in
    let w : Box View = with_value v c.plan_outcome.new.view in
    on_err_if c.from_residual-in_err-step.result _
    (seen_still n (Some w) c.plan_outcome.new.store c.args.self.now c.self.view_is (more_in_both n v w c.plan_outcome.new.store c.in-Some.is same c.in_ok-outcome.ensures.kept))

pub invariant_of-self-2 : goal.invariant_of-self-2
invariant_of-self-2 c =
    let n = c.self.inside in
    let f = c.args.self.now.now in
    let u = c.in-Some.view.value in
    let v = option_copied c.args.version in
    let o = c.in_ok-outcome.outcome in
    let now : f ≡ node_facts n = sym (ap (λ (p : Planning). p.now) c.self.view_is) in
    let viewed : IsInView f u = subst (λ (g : Facts). IsInView g u) (sym now) (c.self.invariant.0.view c.in-Some.view c.in-Some.is).view.viewed in
    let ranges : HasRanges f = subst HasRanges (sym now) c.self.invariant.0.ranges in
    let same : IsSame u c.plan_outcome.new.view = subst (λ (w : Viewed). IsSame w c.plan_outcome.new.view) c.deref_mut.ensures.value c.in_ok-outcome.ensures.same in
    let one = answered_one f c.args.from c.args.transaction c.requires.last in
    let is = answered_found f.transactions c.args.transaction c.args.clock f.store.by v one.0 c.in_ok-resolving.resolving one.1.found c.in_ok-resolving.ensures in
    let made = sym (step_made u c.deref_mut.result.now c.args.clock c.args.from c.args.transaction f.store.by v c.in_ok-version.version one.0 c.in_ok-resolving.resolving o
    c.in_ok-version.ensures c.deref_mut.ensures.value is c.in_ok-outcome.ensures.outcome) ∙ sym c.in_ok-step.ensures.ok in
    let p : ViewStep = c.in_ok-step.step.value in
    let fits : FitsStep f p = subst (FitsStep f) made (resolved_fits f u c.args.clock c.args.from c.args.transaction v one.0 viewed one.1 c.requires.counts) in
    let spelled_after : HasRanges (plans.view_taken f p) =
    subst (λ (q : ViewStep). HasRanges (plans.view_taken f q)) made
    (resolved_spelled f u c.args.clock c.args.from c.args.transaction v one.0 one.1 c.requires.counts c.requires.answer c.ranges.clock.fits ranges) in
    room_and_step n c.in-Some.view (with_value c.in-Some.view c.plan_outcome.new.view) c.plan_outcome.new.store c.in_ok-step.step c.self.invariant.0 c.in-Some.is same c.in_ok-outcome.ensures.kept
    (subst (λ (g : Facts). FitsStep g p) now fits) (subst (λ (g : Facts). HasRanges (plans.view_taken g p)) now spelled_after)
    (subst (HasRoomIn c.plan_outcome.new.view c.plan_outcome.new.store.spare) (sym c.in_ok-step.ensures.ok) (room_found f u c.plan_outcome.new.view c.plan_outcome.new.store.spare c.args.from c.args.transaction one.0 c.in_ok-resolving.resolving.digest o viewed same one.1
    (ap (λ (r : Resolving). r.digest) is) c.in_ok-outcome.ensures.room))

pub returns-clause-effects : goal.returns-clause-effects
returns-clause-effects c =
    let n = c.self.inside in
    let f = c.args.self.now.now in
    let v = option_copied c.args.version in
    let now : f ≡ node_facts n = sym (ap (λ (p : Planning). p.now) c.self.view_is) in
    let node : IsNodeInView (node_facts n) c.deref_mut.result.now n.store = subst (λ (w : Viewed). IsNodeInView (node_facts n) w n.store) (sym c.deref_mut.ensures.value) (c.self.invariant.0.view c.in-Some.view c.in-Some.is) in
    let seen : IsNodeInView f c.deref_mut.result.now n.store = subst (λ (g : Facts). IsNodeInView g c.deref_mut.result.now n.store) (sym now) node in
    let one = answered_one f c.args.from c.args.transaction c.requires.last in
    let is = answered_found f.transactions c.args.transaction c.args.clock f.store.by v one.0 c.in_ok-resolving.resolving one.1.found c.in_ok-resolving.ensures in
    c.in_ok-outcome.ensures.effects f seen
    ∙ ap (λ (e : Effects). then_effects e (due_outcome f c.in_ok-resolving.resolving)) c.new-out.ensures
    ∙ ap (λ (r : Resolving). spelled (due_outcome f r)) is
    ∙ ap spelled (answer_due f c.args.clock c.args.from c.args.transaction v one.0 one.1)

pub returns-clause-planned : goal.returns-clause-planned
returns-clause-planned c =
    let n = c.self.inside in
    let f = c.args.self.now.now in
    let u = c.in-Some.view.value in
    let v = option_copied c.args.version in
    let o = c.in_ok-outcome.outcome in
    let now : f ≡ node_facts n = sym (ap (λ (p : Planning). p.now) c.self.view_is) in
    let viewed : IsInView f u = subst (λ (g : Facts). IsInView g u) (sym now) (c.self.invariant.0.view c.in-Some.view c.in-Some.is).view.viewed in
    let same : IsSame u c.plan_outcome.new.view = subst (λ (w : Viewed). IsSame w c.plan_outcome.new.view) c.deref_mut.ensures.value c.in_ok-outcome.ensures.same in
    let one = answered_one f c.args.from c.args.transaction c.requires.last in
    let is = answered_found f.transactions c.args.transaction c.args.clock f.store.by v one.0 c.in_ok-resolving.resolving one.1.found c.in_ok-resolving.ensures in
    let made = c.in_ok-step.ensures.ok ∙ step_made u c.deref_mut.result.now c.args.clock c.args.from c.args.transaction f.store.by v c.in_ok-version.version one.0 c.in_ok-resolving.resolving o
    c.in_ok-version.ensures c.deref_mut.ensures.value is c.in_ok-outcome.ensures.outcome in
    let p : ViewStep = c.in_ok-step.step.value in
    let after : Facts = resolved_with (answer_came f c.args.from c.args.transaction v true) c.args.clock c.args.from v (transaction f.transactions c.args.transaction) in
    let taken : plans.view_taken f p ≡ after = ap (plans.view_taken f) made ∙ resolved_after f u c.args.clock c.args.from c.args.transaction v one.0 viewed one.1 in
    step_planned n c.in-Some.view (with_value c.in-Some.view c.plan_outcome.new.view) c.plan_outcome.new.store c.in_ok-step.step f after c.in-Some.is same c.in_ok-outcome.ensures.kept (sym now) taken
