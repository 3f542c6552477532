use Rattle.std.proofs.Common.{◌≡◌, Bool, true, false, IfOk, sym, ap, subst, ◌∙◌}
use Rattle.std.specs.Prelude.{IsSome, if◌then◌else◌}
use Rattle.immigrate.specs.declared.merging.Merged.{Merged}
use Rattle.node_rules.specs.Notes.{in_view}
use Rattle.node_rules.specs.Steps.{Planning, planning}
use Rattle.node_view.specs.declared.view_step.ViewStep.{ViewStep}
use Rattle.node_view.specs.declared.view_step.ViewStep.TheVariants as step
use Rattle.node_view.specs.Plans as view
use Rattle.node_view.specs.Rooms.{HasRoomIn}
use Rattle.node_steps.specs.declared.planned.Planned.{Planned}
use Rattle.node_steps.specs.declared.planned.Planned.TheVariants as planned
use Rattle.node_core.specs.Nodes.{node_facts}
use Rattle.node_steps.specs.Fits.{FitsView}
use Rattle.node_steps.specs.Ranges.{HasRanges}
use Rattle.node_steps.specs.Spelled.{spelled}
use Rattle.node_core.proofs.PlannedMessageLaws.{batch_effects_due, batch_is_after}
use Rattle.node_steps.proofs.BatchMessageLaws.{batch_fits, batch_ranges}
use Rattle.node_core.proofs.HandlerLaws.{in_one, still}
use Rattle.node_core.proofs.NodeLaws.{has_no_plan}
use Rattle.node_core.proofs.RoomLaws.{more_in_store, node_roomier_planned, node_roomier_still, on_err_if, seen_planned, seen_still}
use Rattle.node_core.proofs.node.Node.on_batch.Goals as goal
use Rattle.node_rules.specs.BatchMessages.{merging_all}
use Rattle.node_rules.specs.Effects.{lines_and_sends, to_one}
use Rattle.node_rules.specs.StaleMessages.{stale}
use Rattle.wire_messages.specs.declared.message.Message.TheVariants as message

pub returns-then-is_none-clause-effects : goal.returns-then-is_none-clause-effects
returns-then-is_none-clause-effects c =
    let out : in_view c.args.self.now.now c.args.batch.now.key ≡ false = sym c.view_of.ensures.some ∙ c.if-is_none.ensures in
    subst (λ (b : Bool). IfOk c.stale.result (λ e. e ≡ spelled (if b then lines_and_sends (merging_all c.args.self.now.now c.args.batch.now.records) (to_one c.args.from (message.BatchAck c.args.batch.now.key c.args.batch.now.number)) else stale c.args.self.now.now))) (sym out) c.stale.ensures.effects

pub invariant_of-self : goal.invariant_of-self
invariant_of-self c =
    let n = c.self.inside in
    node_roomier_still n n.view c.plan_batch.new.store c.self.invariant.0 (has_no_plan n c.args.self.now c.self.view_is c.requires.unplanned) (more_in_store n c.plan_batch.new.store c.plan_batch.ensures.same)

pub returns-in_err-merged-clause-err : goal.returns-in_err-merged-clause-err
returns-in_err-merged-clause-err c =
    let n = c.self.inside in
    on_err_if c.from_residual.result _
    (seen_still n n.view c.plan_batch.new.store c.args.self.now c.self.view_is (more_in_store n c.plan_batch.new.store c.plan_batch.ensures.same) ∙ still c.args.self.now c.requires.unplanned)

pub invariant_of-self-in_err-out : goal.invariant_of-self-in_err-out
invariant_of-self-in_err-out c =
    let n = c.self.inside in
    node_roomier_still n n.view c.plan_batch.new.store c.self.invariant.0 (has_no_plan n c.args.self.now c.self.view_is c.requires.unplanned) (more_in_store n c.plan_batch.new.store c.plan_batch.ensures.same)

pub returns-in_err-out-clause-err : goal.returns-in_err-out-clause-err
returns-in_err-out-clause-err c =
    let n = c.self.inside in
    on_err_if c.from_residual-in_err-out.result _
    (seen_still n n.view c.plan_batch.new.store c.args.self.now c.self.view_is (more_in_store n c.plan_batch.new.store c.plan_batch.ensures.same) ∙ still c.args.self.now c.requires.unplanned)

pub invariant_of-self-in_err-step : goal.invariant_of-self-in_err-step
invariant_of-self-in_err-step c =
    let n = c.self.inside in
    node_roomier_still n n.view c.plan_batch.new.store c.self.invariant.0 (has_no_plan n c.args.self.now c.self.view_is c.requires.unplanned) (more_in_store n c.plan_batch.new.store c.plan_batch.ensures.same)

pub returns-in_err-step-clause-err : goal.returns-in_err-step-clause-err
returns-in_err-step-clause-err c =
    let n = c.self.inside in
    on_err_if c.from_residual-in_err-step.result _
    (seen_still n n.view c.plan_batch.new.store c.args.self.now c.self.view_is (more_in_store n c.plan_batch.new.store c.plan_batch.ensures.same) ∙ still c.args.self.now c.requires.unplanned)

pub invariant_of-self-2 : goal.invariant_of-self-2
invariant_of-self-2 c =
    let n = c.self.inside in
    let b = c.args.batch.now in
    let m : Merged = c.in_ok-merged.merged in
    let p : Planned = planned.View c.in_ok-step.step in
    let made : step.Merged m ≡ c.in_ok-step.step.value = sym c.in_ok-step.ensures.ok in
    let of_view : in_view c.args.self.now.now b.key ≡ true = sym c.view_of.ensures.some ∙ c.if-is_none.ensures in
    let inside_one : IsSome (node_facts n).exchange.view = subst (λ (q : Planning). IsSome q.now.exchange.view) (sym c.self.view_is) (in_one c.args.self.now.now b.key of_view) in
    node_roomier_planned n n.view c.plan_batch.new.store p c.self.invariant.0 (more_in_store n c.plan_batch.new.store c.plan_batch.ensures.same)
    (subst (FitsView (node_facts n)) made (batch_fits (node_facts n) b m inside_one c.in_ok-merged.ensures.newer))
    (subst (λ (s : ViewStep). HasRanges (view.view_taken (node_facts n) s)) made (batch_ranges (node_facts n) b m c.requires.proper c.in_ok-merged.ensures.newer c.self.invariant.0.ranges))
    (λ v e. subst (HasRoomIn v.value c.plan_batch.new.store.spare) made c.in_ok-merged.ensures.room)

pub returns-clause-effects : goal.returns-clause-effects
returns-clause-effects c =
    let b = c.args.batch.now in
    let of_view : in_view c.args.self.now.now b.key ≡ true = sym c.view_of.ensures.some ∙ c.if-is_none.ensures in
    c.in_ok-out.ensures ∙ batch_effects_due c.self.inside c.args.self.now c.args.from b c.in_ok-merged.merged.newer c.self.view_is of_view c.in_ok-merged.ensures.newer

pub returns-clause-planned : goal.returns-clause-planned
returns-clause-planned c =
    let n = c.self.inside in
    let b = c.args.batch.now in
    let m : Merged = c.in_ok-merged.merged in
    let of_view : in_view c.args.self.now.now b.key ≡ true = sym c.view_of.ensures.some ∙ c.if-is_none.ensures in
    seen_planned n n.view c.plan_batch.new.store (planned.View c.in_ok-step.step) c.args.self.now c.self.view_is (more_in_store n c.plan_batch.new.store c.plan_batch.ensures.same)
    ∙ ap (λ (s : ViewStep). planning c.args.self.now.now (view.view_taken c.args.self.now.now s)) c.in_ok-step.ensures.ok
    ∙ ap (planning c.args.self.now.now) (batch_is_after n c.args.self.now c.args.from b m c.self.view_is of_view c.in_ok-merged.ensures.newer)
