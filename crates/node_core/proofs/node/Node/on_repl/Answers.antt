use Rattle.std.proofs.Common.{◌≡◌, ◌==◌, ℕ, Bool, true, false, Some, IfOk, sym, ap, subst, ◌∙◌}
use Rattle.std.specs.Prelude.{IsSome, if◌then◌else◌}
use Rattle.std.specs.Box.{with_value}
use Rattle.std.specs.FinMap as finite
use Rattle.std.specs.Global.{Box}
use Rattle.std.specs.Option.{ForSome}
use Rattle.conflict_order.specs.Order.{is_newer}
use Rattle.cluster_types.specs.Partitions.{partition_of}
use Rattle.wire_messages.specs.declared.message.Message.TheVariants as message
use Rattle.node_rules.specs.Effects.{sends_only, to_one, lines_and_sends}
use Rattle.node_rules.specs.Facts.{list_at}
use Rattle.node_rules.specs.Map.{list_master}
use Rattle.node_rules.specs.Notes.{in_view}
use Rattle.node_rules.specs.Steps.{Planning, planning}
use Rattle.node_view.specs.declared.view.View.{View}
use Rattle.node_view.specs.declared.view_step.ViewStep.{ViewStep}
use Rattle.node_view.specs.declared.view_step.ViewStep.TheVariants as step
use Rattle.node_view.specs.Plans as view
use Rattle.node_view.specs.Plans.{some_if}
use Rattle.node_view.specs.Rooms.{HasRoomIn, HasRoomToCount}
use Rattle.node_view.specs.Views.{IsSame, Viewed}
use Rattle.node_steps.specs.declared.effects.Effects.{Effects}
use Rattle.node_steps.specs.declared.planned.Planned.{Planned}
use Rattle.node_steps.specs.declared.planned.Planned.TheVariants as planned
use Rattle.node_core.specs.Nodes.{node_facts}
use Rattle.node_steps.specs.Fits.{FitsView}
use Rattle.node_steps.specs.Ranges.{HasRanges}
use Rattle.node_steps.specs.Rooms.{HasRoomForStep}
use Rattle.node_steps.specs.Spelled.{then_effects, spelled}
use Rattle.node_core.proofs.HandlerLaws.{in_one, still}
use Rattle.node_core.proofs.NodeLaws.{has_no_plan}
use Rattle.node_core.proofs.PlannedMessageLaws.{count_seen, repl_effects_due, version_seen}
use Rattle.node_steps.proofs.ReplLaws.{repl_after, repl_fits, repl_ranges}
use Rattle.node_core.proofs.RoomLaws.{holds_itself, more_in_both, node_roomier_planned, node_roomier_still, on_err_if, planned_for, seen_planned, seen_still}
use Rattle.node_core.proofs.node.Node.on_repl.Goals as goal
use Rattle.node_rules.specs.BatchMessages.{merging}
use Rattle.node_rules.specs.StaleMessages.{stale}

pub returns-then-is_none-clause-effects : goal.returns-then-is_none-clause-effects
returns-then-is_none-clause-effects c =
    let f = c.args.self.now.now in
    let out : in_view f c.args.key ≡ false = sym c.view_of.ensures.some ∙ c.if-is_none.ensures in
    subst (λ (b : Bool). IfOk c.stale.result (λ e. e ≡ spelled (if b then lines_and_sends (merging f c.args.digest.now c.args.version.now) (to_one c.args.from (message.ReplAck c.args.key c.args.transaction)) else stale f))) (sym out) c.stale.ensures.effects

pub invariant_of-self : goal.invariant_of-self
invariant_of-self c =
    let n = c.self.inside in
    let v = c.in-Some.view in
    let w : Box View = with_value v c.plan_count.new.self in
    let same : IsSame v.value w.value = subst (λ (x : Viewed). IsSame x c.plan_count.new.self) c.deref_mut.ensures.value c.plan_count.ensures.same in
    node_roomier_still n (Some w) n.store c.self.invariant.0 (has_no_plan n c.args.self.now c.self.view_is c.requires.unplanned)
    (more_in_both n v w n.store c.in-Some.is same (holds_itself n.store))

pub invariant_of-self-in_err-newer : goal.invariant_of-self-in_err-newer
invariant_of-self-in_err-newer c =
    let n = c.self.inside in
    let v = c.in-Some.view in
    let w : Box View = with_value v c.plan_count.new.self in
    let same : IsSame v.value w.value = subst (λ (x : Viewed). IsSame x c.plan_count.new.self) c.deref_mut.ensures.value c.plan_count.ensures.same in
    node_roomier_still n (Some w) c.plan_merge.new.store c.self.invariant.0 (has_no_plan n c.args.self.now c.self.view_is c.requires.unplanned)
    (more_in_both n v w c.plan_merge.new.store c.in-Some.is same c.plan_merge.ensures.kept)

pub returns-in_err-newer-clause-err : goal.returns-in_err-newer-clause-err
returns-in_err-newer-clause-err c =
    let n = c.self.inside in
    let v = c.in-Some.view in
    let w : Box View = with_value v c.plan_count.new.self in
    let same : IsSame v.value w.value = subst (λ (x : Viewed). IsSame x c.plan_count.new.self) c.deref_mut.ensures.value c.plan_count.ensures.same in
    on_err_if c.from_residual-in_err-newer.result _
    (seen_still n (Some w) c.plan_merge.new.store c.args.self.now c.self.view_is (more_in_both n v w c.plan_merge.new.store c.in-Some.is same c.plan_merge.ensures.kept) ∙ still c.args.self.now c.requires.unplanned)

pub invariant_of-self-in_err-out : goal.invariant_of-self-in_err-out
invariant_of-self-in_err-out c =
    let n = c.self.inside in
    let v = c.in-Some.view in
    let w : Box View = with_value v c.plan_count.new.self in
    let same : IsSame v.value w.value = subst (λ (x : Viewed). IsSame x c.plan_count.new.self) c.deref_mut.ensures.value c.plan_count.ensures.same in
    node_roomier_still n (Some w) c.plan_merge.new.store c.self.invariant.0 (has_no_plan n c.args.self.now c.self.view_is c.requires.unplanned)
    (more_in_both n v w c.plan_merge.new.store c.in-Some.is same c.plan_merge.ensures.kept)

pub returns-in_err-out-clause-err : goal.returns-in_err-out-clause-err
returns-in_err-out-clause-err c =
    let n = c.self.inside in
    let v = c.in-Some.view in
    let w : Box View = with_value v c.plan_count.new.self in
    let same : IsSame v.value w.value = subst (λ (x : Viewed). IsSame x c.plan_count.new.self) c.deref_mut.ensures.value c.plan_count.ensures.same in
    on_err_if c.from_residual-in_err-out.result _
    (seen_still n (Some w) c.plan_merge.new.store c.args.self.now c.self.view_is (more_in_both n v w c.plan_merge.new.store c.in-Some.is same c.plan_merge.ensures.kept) ∙ still c.args.self.now c.requires.unplanned)

pub invariant_of-self-in_err-acknowledge : goal.invariant_of-self-in_err-acknowledge
invariant_of-self-in_err-acknowledge c =
    let n = c.self.inside in
    let v = c.in-Some.view in
    let w : Box View = with_value v c.plan_count.new.self in
    let same : IsSame v.value w.value = subst (λ (x : Viewed). IsSame x c.plan_count.new.self) c.deref_mut.ensures.value c.plan_count.ensures.same in
    node_roomier_still n (Some w) c.plan_merge.new.store c.self.invariant.0 (has_no_plan n c.args.self.now c.self.view_is c.requires.unplanned)
    (more_in_both n v w c.plan_merge.new.store c.in-Some.is same c.plan_merge.ensures.kept)

pub returns-in_err-acknowledge-clause-err : goal.returns-in_err-acknowledge-clause-err
returns-in_err-acknowledge-clause-err c =
    let n = c.self.inside in
    let v = c.in-Some.view in
    let w : Box View = with_value v c.plan_count.new.self in
    let same : IsSame v.value w.value = subst (λ (x : Viewed). IsSame x c.plan_count.new.self) c.deref_mut.ensures.value c.plan_count.ensures.same in
    on_err_if c.from_residual-in_err-acknowledge.result _
    (seen_still n (Some w) c.plan_merge.new.store c.args.self.now c.self.view_is (more_in_both n v w c.plan_merge.new.store c.in-Some.is same c.plan_merge.ensures.kept) ∙ still c.args.self.now c.requires.unplanned)

pub invariant_of-self-in_err-step : goal.invariant_of-self-in_err-step
invariant_of-self-in_err-step c =
    let n = c.self.inside in
    let v = c.in-Some.view in
    let w : Box View = with_value v c.plan_count.new.self in
    let same : IsSame v.value w.value = subst (λ (x : Viewed). IsSame x c.plan_count.new.self) c.deref_mut.ensures.value c.plan_count.ensures.same in
    node_roomier_still n (Some w) c.plan_merge.new.store c.self.invariant.0 (has_no_plan n c.args.self.now c.self.view_is c.requires.unplanned)
    (more_in_both n v w c.plan_merge.new.store c.in-Some.is same c.plan_merge.ensures.kept)

pub returns-in_err-step-clause-err : goal.returns-in_err-step-clause-err
returns-in_err-step-clause-err c =
    let n = c.self.inside in
    let v = c.in-Some.view in
    let w : Box View = with_value v c.plan_count.new.self in
    let same : IsSame v.value w.value = subst (λ (x : Viewed). IsSame x c.plan_count.new.self) c.deref_mut.ensures.value c.plan_count.ensures.same in
    on_err_if c.from_residual-in_err-step.result _
    (seen_still n (Some w) c.plan_merge.new.store c.args.self.now c.self.view_is (more_in_both n v w c.plan_merge.new.store c.in-Some.is same c.plan_merge.ensures.kept) ∙ still c.args.self.now c.requires.unplanned)

pub invariant_of-self-2 : goal.invariant_of-self-2
invariant_of-self-2 c =
    let n = c.self.inside in
    let v = c.in-Some.view in
    let w : Box View = with_value v c.plan_count.new.self in
    let same : IsSame v.value w.value = subst (λ (x : Viewed). IsSame x c.plan_count.new.self) c.deref_mut.ensures.value c.plan_count.ensures.same in
    let s = c.plan_merge.new.store in
    let f = node_facts n in
    let digest = c.args.digest.now in
    let version = c.args.version.now in
    let newer = c.in_ok-newer.newer in
    let counted = c.in_ok-counted.counted in
    let sent : Bool = c.args.from == list_master (list_at f (partition_of digest)) in
    let p : Planned = planned.View c.in_ok-step.step in
    let made : step.Replicated (record { digest = digest; newer = newer; counted = counted }) ≡ c.in_ok-step.step.value = sym c.in_ok-step.ensures.ok in
    let of_view : in_view c.args.self.now.now c.args.key ≡ true = sym c.view_of.ensures.some ∙ c.if-is_none.ensures in
    let inside_one : IsSome f.exchange.view = subst (λ (q : Planning). IsSome q.now.exchange.view) (sym c.self.view_is) (in_one c.args.self.now.now c.args.key of_view) in
    let counts = count_seen n v c.deref_mut.result.now c.partition_of.result (partition_of digest) c.args.from c.args.nth counted c.self.invariant.0 c.in-Some.is c.deref_mut.ensures.value c.partition_of.ensures c.in_ok-counted.ensures.counted in
    let room : ForSome counted (HasRoomToCount w.value.room (partition_of digest)) =
    subst (λ (q : ℕ). ForSome counted (HasRoomToCount w.value.room q)) c.partition_of.ensures c.in_ok-counted.ensures.room in
    node_roomier_planned n (Some w) s p c.self.invariant.0 (more_in_both n v w s c.in-Some.is same c.plan_merge.ensures.kept)
    (subst (FitsView f) made (repl_fits f c.args.from c.args.nth digest version newer counted sent inside_one c.requires.proper.2 c.in_ok-newer.ensures.newer counts))
    (subst (λ (t : ViewStep). HasRanges (view.view_taken f t)) made
    (repl_ranges f c.args.nth digest version newer counted (is_newer f.store.by version (finite.get f.store.content digest)) sent c.requires.proper.2 c.requires.proper.3 c.requires.proper.4 c.in_ok-newer.ensures.newer counts c.self.invariant.0.ranges))
    (planned_for (λ (x : Box View). HasRoomForStep x.value s.spare p) w (subst (HasRoomIn w.value s.spare) made (c.in_ok-newer.ensures.room, room)))

pub returns-clause-effects : goal.returns-clause-effects
returns-clause-effects c =
    let of_view : in_view c.args.self.now.now c.args.key ≡ true = sym c.view_of.ensures.some ∙ c.if-is_none.ensures in
    c.in_ok-acknowledge.ensures
    ∙ ap (λ (e : Effects). then_effects e (sends_only (to_one c.args.from (message.ReplAck c.args.key c.args.transaction)))) c.in_ok-out.ensures
    ∙ repl_effects_due c.self.inside c.args.self.now c.args.from c.args.key c.args.transaction c.args.digest.now c.args.version.now c.in_ok-newer.newer c.is_some.result c.self.view_is of_view
    c.in_ok-newer.ensures.newer c.is_some.ensures

pub returns-clause-planned : goal.returns-clause-planned
returns-clause-planned c =
    let n = c.self.inside in
    let v = c.in-Some.view in
    let w : Box View = with_value v c.plan_count.new.self in
    let same : IsSame v.value w.value = subst (λ (x : Viewed). IsSame x c.plan_count.new.self) c.deref_mut.ensures.value c.plan_count.ensures.same in
    let s = c.plan_merge.new.store in
    let seen = c.args.self.now in
    let digest = c.args.digest.now in
    let newer = c.in_ok-newer.newer in
    let counted = c.in_ok-counted.counted in
    let p : Planned = planned.View c.in_ok-step.step in
    let of_view : in_view seen.now c.args.key ≡ true = sym c.view_of.ensures.some ∙ c.if-is_none.ensures in
    let counts = count_seen n v c.deref_mut.result.now c.partition_of.result (partition_of digest) c.args.from c.args.nth counted c.self.invariant.0 c.in-Some.is c.deref_mut.ensures.value c.partition_of.ensures c.in_ok-counted.ensures.counted in
    seen_planned n (Some w) s p seen c.self.view_is (more_in_both n v w s c.in-Some.is same c.plan_merge.ensures.kept)
    ∙ ap (λ (t : ViewStep). planning seen.now (view.view_taken seen.now t)) c.in_ok-step.ensures.ok
    ∙ ap (planning seen.now)
    (sym (repl_after seen.now c.args.from c.args.key c.args.transaction c.args.nth digest c.args.version.now newer counted of_view
    (version_seen n seen digest c.args.version.now newer c.self.view_is c.in_ok-newer.ensures.newer)
    (counts ∙ ap (λ (q : Planning). some_if (c.args.from == list_master (list_at q.now (partition_of digest))) c.args.nth) c.self.view_is)))
