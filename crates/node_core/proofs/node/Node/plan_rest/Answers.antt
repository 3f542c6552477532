use Rattle.std.proofs.Common.{◌≡◌, List, Option, refl, sym, ap, subst, ◌∙◌}
use Rattle.cluster_types.specs.Partitions.{partition_count}
use Rattle.node_rules.specs.ByParts.{batches_due}
use Rattle.node_rules.specs.Effects as rules
use Rattle.node_rules.specs.Facts.{Facts, view_key}
use Rattle.node_rules.specs.Settling.{settling_due}
use Rattle.node_rules.specs.Steps.{Planning}
use Rattle.node_rules.specs.Tick.{parts_in_order}
use Rattle.node_view.specs.declared.here.Settling.{Settling}
use Rattle.node_view.specs.Fits.{AreNext, AreSettlings}
use Rattle.node_view.specs.Plans.{settled_by}
use Rattle.node_view.specs.Settlings.{settling_lines}
use Rattle.node_view.specs.Views.{Viewed, with_view}
use Rattle.node_steps.specs.Counts.{HaveNumbers}
use Rattle.node_steps.specs.Grounds.{lent, with_view_fields}
use Rattle.node_steps.specs.Ranges.{HasRanges}
use Rattle.node_steps.specs.Spelled.{then_effects}
use Rattle.node_steps.specs.Ticks.{later_parts}
use Rattle.node_steps.proofs.TickingLaws.{agreeing_with, ground_in_newest, later_ground, later_numbers, later_plan, later_told, lent_view, told_later}
use Rattle.node_core.proofs.node.Node.plan_rest.Goals as goal

pub ground-ground-requires : goal.ground-ground-requires
ground-ground-requires c =
    let f : Facts = c.args.self.now.now in
    let before : HasRanges f = subst (λ (p : Planning). HasRanges p.now) c.self.view_is c.self.invariant.0.ranges in
    ground_in_newest f c.args.hearing.now c.args.agree c.args.entered c.own_view.result c.newest.result c.own_view.ensures.some c.own_view.ensures.none c.own_view.ensures.view
    c.newest.ensures c.requires.up c.requires.hearing c.requires.view before c.requires.ranges

pub batches-requires : goal.batches-requires
batches-requires c =
    let f : Facts = c.args.self.now.now in
    let own : Option Viewed = lent c.own_view.result in
    let is : with_view f own ≡ f = lent_view f c.own_view.result c.own_view.ensures.none c.own_view.ensures.view in
    let same : c.ground-ground.result ≡ later_ground f c.args.hearing.now c.args.agree c.args.entered own =
    c.ground-ground.ensures ∙ ap (λ (o : Option Viewed). with_view_fields (agreeing_with f c.args.hearing.now.hearing c.args.agree.agreement) o) c.newest.ensures in
    subst HaveNumbers (sym same) (later_numbers f c.args.hearing.now c.args.agree c.args.entered own is c.requires.counts)

pub returns-clause-lines : goal.returns-clause-lines
returns-clause-lines c =
    let f : Facts = c.args.self.now.now in
    let own : Option Viewed = lent c.own_view.result in
    let is : with_view f own ≡ f = lent_view f c.own_view.result c.own_view.ensures.none c.own_view.ensures.view in
    let g : Facts = c.ground-ground.result in
    let same : g ≡ later_ground f c.args.hearing.now c.args.agree c.args.entered own =
    c.ground-ground.ensures ∙ ap (λ (o : Option Viewed). with_view_fields (agreeing_with f c.args.hearing.now.hearing c.args.agree.agreement) o) c.newest.ensures in
    told_later c.args.out.now c.rows.new.out c.transactions.new.out c.batches.new.out c.settlings.new.out c.progress.new.out g (settled_by g c.deref.result.now)
    c.in_ok-rows.ensures c.in_ok-transactions.ensures c.in_ok-batches.ensures.sends c.in_ok-settlings.ensures.lines c.in_ok-progress.ensures
    (ap (λ (ss : List Settling). settled_by g ss) c.deref.ensures.value ∙ c.in_ok-settlings.ensures.settled)
    ∙ ap (λ (x : Facts). then_effects c.args.out.now
    (parts_in_order (later_parts partition_count) x)) same
    ∙ ap (λ (e : rules.Effects). then_effects c.args.out.now e) (later_told f c.args.hearing.now c.args.agree c.args.entered own is c.requires.ranges)

pub returns-clause-ticked : goal.returns-clause-ticked
returns-clause-ticked c =
    let f : Facts = c.args.self.now.now in
    let own : Option Viewed = lent c.own_view.result in
    let is : with_view f own ≡ f = lent_view f c.own_view.result c.own_view.ensures.none c.own_view.ensures.view in
    let g : Facts = c.ground-ground.result in
    let same : g ≡ later_ground f c.args.hearing.now c.args.agree c.args.entered own =
    c.ground-ground.ensures ∙ ap (λ (o : Option Viewed). with_view_fields (agreeing_with f c.args.hearing.now.hearing c.args.agree.agreement) o) c.newest.ensures in
    later_plan f c.args.hearing.now c.args.agree c.args.entered own
    (record { agree = c.args.agree; entered = c.args.entered; batches = c.in_ok-batches.batches; settlings = c.in_ok-settlings.settlings })
    is c.requires.ranges refl refl
    (c.in_ok-batches.ensures.sent ∙ ap (λ (x : Facts). batches_due (view_key x) x.store.content x.batches) same)
    (subst (λ (x : Facts). AreNext x.exchange.exchanged (view_key x) x.batches c.in_ok-batches.batches.items) same c.in_ok-batches.ensures.next)
    (subst (λ (x : Facts). AreSettlings x c.in_ok-settlings.settlings.items) same c.in_ok-settlings.ensures.due)
    (subst (λ (x : Facts). settling_lines x.me (view_key x) c.in_ok-settlings.settlings.items ≡ settling_due partition_count x) same c.in_ok-settlings.ensures.told)
