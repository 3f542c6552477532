use Rattle.std.proofs.Common.{◌≡◌, Bool, true, false, Some, IfOk, refl, sym, ap, subst, ◌∙◌}
use Rattle.std.specs.Prelude.{IsSome, [], if◌then◌else◌}
use Rattle.std.specs.Box.{with_value}
use Rattle.std.specs.Global.{Box}
use Rattle.journal_lines.specs.declared.line.Line.TheVariants as line
use Rattle.node_rules.specs.Effects.{lines_only, lines_and_sends, to_one}
use Rattle.node_rules.specs.Facts.{Facts, view_key}
use Rattle.node_rules.specs.Notes.{in_view, row_came}
use Rattle.node_rules.specs.Steps.{Planning, planning}
use Rattle.node_rules.specs.Tables.{only_if}
use Rattle.node_view.specs.declared.view.View.{View}
use Rattle.node_view.specs.Views.{viewed_key}
use Rattle.node_steps.specs.declared.effects.Effects.{Effects}
use Rattle.node_steps.specs.Fits.{FitsPlanned}
use Rattle.node_core.specs.Nodes.{node_facts, planning_of}
use Rattle.node_steps.specs.Plans.{taken}
use Rattle.node_steps.specs.Ranges.{HasRanges}
use Rattle.node_steps.specs.Spelled.{then_effects, spelled}
use Rattle.node_steps.specs.Viewing.{finishes_with}
use Rattle.node_core.proofs.HandlerLaws.{in_one}
use Rattle.node_core.proofs.NodeLaws.{has_no_plan}
use Rattle.node_core.proofs.RoomLaws.{HasMoreRoom, facts_roomier, holds_itself, more_in_both, node_lent, node_roomier_still, same_view}
use Rattle.node_steps.proofs.RowMessageLaws.{member_lent, row_message_ranges, state_after, state_proper, state_told}
use Rattle.node_core.proofs.node.Node.on_state.Goals as goal
use Rattle.node_rules.specs.RowMessages.{finishes}
use Rattle.node_rules.specs.StaleMessages.{stale}
use Rattle.node_rules.specs.Tick.{state}

pub returns-then-is_none-clause-effects : goal.returns-then-is_none-clause-effects
returns-then-is_none-clause-effects c =
    let f = c.args.self.now.now in
    let out : in_view f c.args.key ≡ false = sym c.view_of.ensures.some ∙ c.if-is_none.ensures in
    subst (λ (b : Bool). IfOk c.stale.result (λ e. e ≡ spelled (if b then lines_and_sends (only_if (line.Exchanged f.me (view_key f)) (finishes f (row_came f c.args.from c.args.row.now b))) (if c.args.wants then to_one c.args.from (state f false) else []) else stale f))) (sym out) c.stale.ensures.effects

pub state_effects-requires : goal.state_effects-requires
state_effects-requires c =
    let seen = c.args.self.now in
    let node = node_lent c.self.inside seen c.in-Some.view c.deref.result.now c.self.invariant.0 c.self.view_is c.in-Some.is c.deref.ensures in
    let of_view : in_view seen.now c.args.key ≡ true = sym c.view_of.ensures.some ∙ c.if-is_none.ensures in
    state_proper seen.now c.deref.result.now c.args.key node.view.viewed of_view c.requires.proper.0 (subst (λ (p : Planning). HasRanges p.now) c.self.view_is c.self.invariant.0.ranges)

pub invariant_of-self : goal.invariant_of-self
invariant_of-self c =
    let n = c.self.inside in
    let v = c.in-Some.view in
    node_roomier_still n (Some v) n.store c.self.invariant.0 (has_no_plan n c.args.self.now c.self.view_is c.requires.unplanned)
    (more_in_both n v v n.store c.in-Some.is (same_view v.value v.value refl) (holds_itself n.store))

pub plan_row-requires : goal.plan_row-requires
plan_row-requires c =
    let seen = c.args.self.now in
    let node = node_lent c.self.inside seen c.in-Some.view c.deref_mut.result.now c.self.invariant.0 c.self.view_is c.in-Some.is c.deref_mut.ensures.value in
    let of_view : in_view seen.now c.args.key ≡ true = sym c.view_of.ensures.some ∙ c.if-is_none.ensures in
    record { member = member_lent seen.now c.deref_mut.result.now c.args.from node.view.viewed (c.requires.sender.member c.args.key refl of_view) }

pub invariant_of-self-in_err-planned : goal.invariant_of-self-in_err-planned
invariant_of-self-in_err-planned c =
    let n = c.self.inside in
    let v = c.in-Some.view in
    let w : Box View = with_value v c.plan_row.new.view in
    node_roomier_still n (Some w) n.store c.self.invariant.0 (has_no_plan n c.args.self.now c.self.view_is c.requires.unplanned)
    (more_in_both n v w n.store c.in-Some.is (same_view v.value c.plan_row.new.view (c.plan_row.ensures.same ∙ c.deref_mut.ensures.value)) (holds_itself n.store))

pub invariant_of-self-2 : goal.invariant_of-self-2
invariant_of-self-2 c =
    let n = c.self.inside in
    let v = c.in-Some.view in
    let w : Box View = with_value v c.plan_row.new.view in
    node_roomier_still n (Some w) n.store c.self.invariant.0 (has_no_plan n c.args.self.now c.self.view_is c.requires.unplanned)
    (more_in_both n v w n.store c.in-Some.is (same_view v.value c.plan_row.new.view (c.plan_row.ensures.same ∙ c.deref_mut.ensures.value)) (holds_itself n.store))

pub plan-requires-clause-fits : goal.plan-requires-clause-fits
plan-requires-clause-fits c =
    let n = c.self.inside in
    let v = c.in-Some.view in
    let w : Box View = with_value v c.plan_row.new.view in
    let more : HasMoreRoom n (Some w) n.store = more_in_both n v w n.store c.in-Some.is (same_view v.value c.plan_row.new.view (c.plan_row.ensures.same ∙ c.deref_mut.ensures.value)) (holds_itself n.store) in
    let node = node_lent n (planning_of n) v c.deref_mut.result.now c.self.invariant.0 refl c.in-Some.is c.deref_mut.ensures.value in
    let of_view : in_view c.args.self.now.now c.args.key ≡ true = sym c.view_of.ensures.some ∙ c.if-is_none.ensures in
    let inside_one : IsSome (node_facts n).exchange.view = subst (λ (q : Planning). IsSome q.now.exchange.view) (sym c.self.view_is) (in_one c.args.self.now.now c.args.key of_view) in
    subst (λ (g : Facts). FitsPlanned g c.in_ok-planned.planned) (sym (facts_roomier n (Some w) n.store more)) (c.in_ok-planned.ensures.fits (node_facts n) node inside_one)

pub plan-requires-clause-ranges : goal.plan-requires-clause-ranges
plan-requires-clause-ranges c =
    let n = c.self.inside in
    let v = c.in-Some.view in
    let w : Box View = with_value v c.plan_row.new.view in
    let more : HasMoreRoom n (Some w) n.store = more_in_both n v w n.store c.in-Some.is (same_view v.value c.plan_row.new.view (c.plan_row.ensures.same ∙ c.deref_mut.ensures.value)) (holds_itself n.store) in
    let node = node_lent n (planning_of n) v c.deref_mut.result.now c.self.invariant.0 refl c.in-Some.is c.deref_mut.ensures.value in
    let of_view : in_view c.args.self.now.now c.args.key ≡ true = sym c.view_of.ensures.some ∙ c.if-is_none.ensures in
    let inside_one : IsSome (node_facts n).exchange.view = subst (λ (q : Planning). IsSome q.now.exchange.view) (sym c.self.view_is) (in_one c.args.self.now.now c.args.key of_view) in
    subst (λ (g : Facts). HasRanges (taken g c.in_ok-planned.planned)) (sym (facts_roomier n (Some w) n.store more))
    (subst HasRanges (sym (c.in_ok-planned.ensures.planned (node_facts n) node)) (row_message_ranges (node_facts n) c.args.from c.args.row.now c.requires.proper.1 inside_one c.self.invariant.0.ranges))

pub returns-clause-effects : goal.returns-clause-effects
returns-clause-effects c =
    let seen = c.args.self.now in
    let lent = c.deref_mut.result.now in
    let first = node_lent c.self.inside seen c.in-Some.view c.deref.result.now c.self.invariant.0 c.self.view_is c.in-Some.is c.deref.ensures in
    let node = node_lent c.self.inside seen c.in-Some.view lent c.self.invariant.0 c.self.view_is c.in-Some.is c.deref_mut.ensures.value in
    let of_view : in_view seen.now c.args.key ≡ true = sym c.view_of.ensures.some ∙ c.if-is_none.ensures in
    c.plan.ensures.same ∙ c.in_ok-planned.ensures.lines
    ∙ ap (λ (e : Effects). then_effects e (lines_only (only_if (line.Exchanged lent.me (viewed_key lent)) (finishes_with lent c.args.from c.args.row.now)))) (c.in_ok-out.ensures seen.now first.view.viewed)
    ∙ state_told seen.now lent c.args.from c.args.key c.args.wants c.args.row.now node.view.viewed of_view

pub returns-clause-planned : goal.returns-clause-planned
returns-clause-planned c =
    let n = c.self.inside in
    let seen = c.args.self.now in
    let v = c.in-Some.view in
    let w : Box View = with_value v c.plan_row.new.view in
    let more : HasMoreRoom n (Some w) n.store = more_in_both n v w n.store c.in-Some.is (same_view v.value c.plan_row.new.view (c.plan_row.ensures.same ∙ c.deref_mut.ensures.value)) (holds_itself n.store) in
    let node = node_lent n seen v c.deref_mut.result.now c.self.invariant.0 c.self.view_is c.in-Some.is c.deref_mut.ensures.value in
    let of_view : in_view seen.now c.args.key ≡ true = sym c.view_of.ensures.some ∙ c.if-is_none.ensures in
    c.plan.ensures.planned
    ∙ ap (λ (g : Facts). planning g (taken g c.in_ok-planned.planned)) (facts_roomier n (Some w) n.store more ∙ ap (λ (p : Planning). p.now) c.self.view_is)
    ∙ ap (planning seen.now) (c.in_ok-planned.ensures.planned seen.now node ∙ state_after seen.now c.args.from c.args.key c.args.wants c.args.row.now of_view)
