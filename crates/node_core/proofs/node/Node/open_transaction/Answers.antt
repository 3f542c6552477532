use Rattle.std.proofs.Common.{◌≡◌, None, Some, ap, subst, sym, ◌∙◌}
use Rattle.std.specs.Box.{with_value}
use Rattle.std.specs.FinMap as finite
use Rattle.std.specs.Global.{Box}
use Rattle.std.specs.Prelude.{IsSome}
use Rattle.cluster_types.specs.Partitions.{partition_of}
use Rattle.node_rules.specs.Facts.{Facts, list_at}
use Rattle.node_rules.specs.Requests.{request_refusal}
use Rattle.node_rules.specs.Steps.{Planning, after_request}
use Rattle.node_rules.specs.Transactions.{transaction_on}
use Rattle.node_view.specs.declared.view.View.{View}
use Rattle.node_view.specs.declared.view_step.ViewStep.{ViewStep}
use Rattle.node_view.specs.Fits.{FitsStep}
use Rattle.node_view.specs.Plans as plans
use Rattle.node_view.specs.Rooms.{HasRoomIn}
use Rattle.node_view.specs.Views.{IsNodeInView, IsSame, Viewed}
use Rattle.node_steps.specs.Counts.{HaveNumbers}
use Rattle.node_core.specs.Nodes.{node_facts}
use Rattle.node_steps.specs.Ranges.{HasRanges}
use Rattle.node_steps.specs.Resolvings.{due_opening, opened_step}
use Rattle.node_steps.specs.Spelled.{spelled}
use Rattle.node_core.proofs.NodeLaws.{has_no_plan, in_no_view}
use Rattle.node_steps.proofs.RangeLaws.{option_version}
use Rattle.node_core.proofs.RoomLaws.{more_in_both, on_err_if, seen_still}
use Rattle.node_core.proofs.OpeningRooms.{in_its_view, room_alone, room_and_step, step_planned}
use Rattle.node_steps.proofs.OpeningLaws.{is_accepted, key_of_view, numbers_of, opened_after, opened_fits, opened_spelled, opening_due}
use Rattle.node_core.proofs.node.Node.open_transaction.Goals as goal

pub unreachable-requires : goal.unreachable-requires
unreachable-requires c =
    let now = ap (λ (p : Planning). p.now) c.self.view_is in
    in_no_view c.self.inside c.in_default.is (subst (λ (f : Facts). IsSome f.exchange.view) (sym now) (is_accepted c.args.self.now.now c.args.digest c.requires.accepted).in_one)

pub plan_opened-requires-clause-counts : goal.plan_opened-requires-clause-counts
plan_opened-requires-clause-counts c =
    let numbers : HaveNumbers (node_facts c.self.inside) = subst (λ (p : Planning). HaveNumbers p.now) (sym c.self.view_is) c.requires.counts in
    rw c.deref_mut.ensures.value (numbers_of (node_facts c.self.inside) c.in-Some.view.value (c.self.invariant.0.view c.in-Some.view c.in-Some.is).view.viewed numbers)

pub plan_opened-requires-clause-key : goal.plan_opened-requires-clause-key
plan_opened-requires-clause-key c =
    rw c.deref_mut.ensures.value (key_of_view (node_facts c.self.inside) c.in-Some.view.value (c.self.invariant.0.view c.in-Some.view c.in-Some.is).view.viewed
    (in_its_view c.self.inside c.in-Some.view c.self.invariant.0 c.in-Some.is) c.self.invariant.0.ranges)

pub plan_opened-requires-clause-exchanged : goal.plan_opened-requires-clause-exchanged
plan_opened-requires-clause-exchanged c =
    let now = ap (λ (p : Planning). p.now) c.self.view_is in
    let node = c.self.invariant.0.view c.in-Some.view c.in-Some.is in
    ap (λ (v : Viewed). v.exchange.exchanged) c.deref_mut.ensures.value
    ∙ ap (λ (g : Facts). g.exchange.exchanged) (node.view.viewed.view ∙ now)
    ∙ (is_accepted c.args.self.now.now c.args.digest c.requires.accepted).exchanged

pub plan_opened-requires-clause-held : goal.plan_opened-requires-clause-held
plan_opened-requires-clause-held c =
    option_version (finite.get c.self.inside.store.versions c.args.digest) (c.self.invariant.0.ranges.store.versions c.args.digest)

pub invariant_of-self : goal.invariant_of-self
invariant_of-self c =
    let same : IsSame c.in-Some.view.value c.plan_opened.new.view = subst (λ (v : Viewed). IsSame v c.plan_opened.new.view) c.deref_mut.ensures.value c.in_err-transaction.ensures.same in
    room_alone c.self.inside c.in-Some.view (with_value c.in-Some.view c.plan_opened.new.view) c.plan_opened.new.store c.self.invariant.0
    (has_no_plan c.self.inside c.args.self.now c.self.view_is c.requires.unplanned) c.in-Some.is same c.in_err-transaction.ensures.kept

pub invariant_of-self-in_err-step : goal.invariant_of-self-in_err-step
invariant_of-self-in_err-step c =
    let same : IsSame c.in-Some.view.value c.plan_opened.new.view = subst (λ (v : Viewed). IsSame v c.plan_opened.new.view) c.deref_mut.ensures.value c.in_ok-transaction.ensures.same in
    room_alone c.self.inside c.in-Some.view (with_value c.in-Some.view c.plan_opened.new.view) c.plan_opened.new.store c.self.invariant.0
    (has_no_plan c.self.inside c.args.self.now c.self.view_is c.requires.unplanned) c.in-Some.is same c.in_ok-transaction.ensures.kept

pub returns-in_err-step-clause-err : goal.returns-in_err-step-clause-err
returns-in_err-step-clause-err c =
    let n = c.self.inside in
    let v = c.in-Some.view in
    let same : IsSame v.value c.plan_opened.new.view = subst (λ (u : Viewed). IsSame u c.plan_opened.new.view) c.deref_mut.ensures.value c.in_ok-transaction.ensures.same in
    let w : Box View = with_value v c.plan_opened.new.view in
    on_err_if c.from_residual-in_err-step.result _
    (seen_still n (Some w) c.plan_opened.new.store c.args.self.now c.self.view_is (more_in_both n v w c.plan_opened.new.store c.in-Some.is same c.in_ok-transaction.ensures.kept))

pub invariant_of-self-2 : goal.invariant_of-self-2
invariant_of-self-2 c =
    let n = c.self.inside in
    let f = node_facts n in
    let v = c.in-Some.view.value in
    let now : c.args.self.now.now ≡ f = sym (ap (λ (p : Planning). p.now) c.self.view_is) in
    let node : IsNodeInView f v n.store = c.self.invariant.0.view c.in-Some.view c.in-Some.is in
    let numbers : HaveNumbers f = subst HaveNumbers now c.requires.counts in
    let same : IsSame v c.plan_opened.new.view = subst (λ (w : Viewed). IsSame w c.plan_opened.new.view) c.deref_mut.ensures.value c.in_ok-transaction.ensures.same in
    let step : opened_step f v c.args.clock c.args.digest c.args.want ≡ c.in_ok-step.step.value =
    ap (λ (w : Viewed). opened_step f w c.args.clock c.args.digest c.args.want) (sym c.deref_mut.ensures.value)
    ∙ sym (c.in_ok-transaction.ensures.step f (subst (λ (w : Viewed). IsNodeInView f w n.store) (sym c.deref_mut.ensures.value) node))
    ∙ sym c.in_ok-step.ensures.ok in
    let held = option_version (finite.get n.store.versions c.args.digest) (c.self.invariant.0.ranges.store.versions c.args.digest) in
    room_and_step n c.in-Some.view (with_value c.in-Some.view c.plan_opened.new.view) c.plan_opened.new.store c.in_ok-step.step c.self.invariant.0
    c.in-Some.is same c.in_ok-transaction.ensures.kept
    (subst (λ (p : ViewStep). FitsStep f p) step (opened_fits f v c.args.clock c.args.digest c.args.want node.view.viewed numbers (subst (λ (g : Facts). transaction_on g.transactions c.args.digest ≡ None) now (is_accepted c.args.self.now.now c.args.digest c.requires.accepted).free)))
    (subst (λ (p : ViewStep). HasRanges (plans.view_taken f p)) step (opened_spelled f v c.args.clock c.args.digest c.args.want numbers c.ranges.clock.fits c.are_spelled.ensures.digest c.are_spelled.ensures.want held c.self.invariant.0.ranges))
    (subst (HasRoomIn c.plan_opened.new.view c.plan_opened.new.store.spare) (sym c.in_ok-step.ensures.ok) c.in_ok-transaction.ensures.room)

pub returns-clause-effects : goal.returns-clause-effects
returns-clause-effects c =
    let n = c.self.inside in
    let f = node_facts n in
    let now : c.args.self.now.now ≡ f = sym (ap (λ (p : Planning). p.now) c.self.view_is) in
    let node : IsNodeInView f c.deref_mut.result.now n.store = subst (λ (w : Viewed). IsNodeInView f w n.store) (sym c.deref_mut.ensures.value) (c.self.invariant.0.view c.in-Some.view c.in-Some.is) in
    c.in_ok-transaction.ensures.effects f node
    ∙ ap (λ (g : Facts). spelled (due_opening g c.args.clock c.args.digest c.args.want)) (sym now)
    ∙ ap spelled (opening_due c.args.self.now.now c.args.clock c.args.digest c.args.want c.requires.accepted)

pub returns-clause-planned : goal.returns-clause-planned
returns-clause-planned c =
    let n = c.self.inside in
    let f = node_facts n in
    let v = c.in-Some.view.value in
    let now : c.args.self.now.now ≡ f = sym (ap (λ (p : Planning). p.now) c.self.view_is) in
    let node : IsNodeInView f v n.store = c.self.invariant.0.view c.in-Some.view c.in-Some.is in
    let same : IsSame v c.plan_opened.new.view = subst (λ (w : Viewed). IsSame w c.plan_opened.new.view) c.deref_mut.ensures.value c.in_ok-transaction.ensures.same in
    let step : c.in_ok-step.step.value ≡ opened_step f v c.args.clock c.args.digest c.args.want =
    c.in_ok-step.ensures.ok
    ∙ c.in_ok-transaction.ensures.step f (subst (λ (w : Viewed). IsNodeInView f w n.store) (sym c.deref_mut.ensures.value) node)
    ∙ ap (λ (w : Viewed). opened_step f w c.args.clock c.args.digest c.args.want) c.deref_mut.ensures.value in
    let accepted = subst (λ (g : Facts). request_refusal g (list_at g (partition_of c.args.digest)) c.args.digest ≡ None) now c.requires.accepted in
    let taken : plans.view_taken f c.in_ok-step.step.value ≡ after_request f c.args.clock c.args.digest c.args.want =
    ap (plans.view_taken f) step ∙ opened_after f v c.args.clock c.args.digest c.args.want node.view.viewed accepted in
    step_planned n c.in-Some.view (with_value c.in-Some.view c.plan_opened.new.view) c.plan_opened.new.store c.in_ok-step.step c.args.self.now.now
    (after_request c.args.self.now.now c.args.clock c.args.digest c.args.want) c.in-Some.is same c.in_ok-transaction.ensures.kept (sym now)
    (subst (λ (g : Facts). plans.view_taken g c.in_ok-step.step.value ≡ after_request g c.args.clock c.args.digest c.args.want) (sym now) taken)
