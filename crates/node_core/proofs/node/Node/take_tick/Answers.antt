use Rattle.std.proofs.Common.{◌≡◌, sym, ap, subst, ◌∙◌}
use Rattle.std.specs.Box.{with_value}
use Rattle.node_rules.specs.Facts.{Facts}
use Rattle.node_rules.specs.Steps.{unplanned}
use Rattle.node_view.specs.Fits.{IsReadyToSend}
use Rattle.node_view.specs.Plans.{settled_by}
use Rattle.node_view.specs.Views.{IsNodeInView, Viewed}
use Rattle.node_steps.specs.Fits.{ticked_facts}
use Rattle.node_core.specs.Nodes.{planning_of}
use Rattle.node_steps.specs.Ranges.{HasRanges}
use Rattle.node_core.proofs.CommitLaws.{aged_is, aging, fits_aged, next_settled, none_before, ready_to_settle, sent_view, settled_node, still_unplanned, ticking, ticking_outside}
use Rattle.node_core.proofs.node.Node.take_tick.Goals as goal

pub invariant_of-self : goal.invariant_of-self
invariant_of-self c = aging c.self.inside c.args.self.now c.tick.new.self c.self.invariant.0 c.tick.ensures.ticked c.self.view_is c.requires.unplanned

pub take_agreed-requires-clause-unplanned : goal.take_agreed-requires-clause-unplanned
take_agreed-requires-clause-unplanned c = still_unplanned _ c.self.inside.planned (none_before c.self.inside c.args.self.now c.self.view_is c.requires.unplanned)

pub take_agreed-requires-clause-fits : goal.take_agreed-requires-clause-fits
take_agreed-requires-clause-fits c = fits_aged c.self.inside c.args.self.now c.tick.new.self c.args.tick c.self.view_is c.requires.fits

pub take_agreed-requires-clause-ranges : goal.take_agreed-requires-clause-ranges
take_agreed-requires-clause-ranges c = subst HasRanges (sym (aged_is c.self.inside c.args.self.now c.tick.new.self c.args.tick c.self.invariant.0 c.tick.ensures.ticked c.self.view_is)) c.requires.fits.ranges

pub settle_all-requires : goal.settle_all-requires
settle_all-requires c =
    let f : Facts = ticked_facts c.args.self.now.now c.args.tick in
    let seen : planning_of c.self-2.inside ≡ unplanned f = c.self-2.view_is ∙ c.take_agreed.ensures ∙ ap unplanned (aged_is c.self.inside c.args.self.now c.tick.new.self c.args.tick c.self.invariant.0 c.tick.ensures.ticked c.self.view_is) in
    rw (c.deref_mut.ensures.value, c.deref.ensures.value) (ready_to_settle c.self-2.inside f c.in-Some.view c.args.tick.settlings.items c.self-2.invariant.0 seen c.in-Some.is c.requires.fits.settlings)

pub send_batches-requires : goal.send_batches-requires
send_batches-requires c =
    let f : Facts = ticked_facts c.args.self.now.now c.args.tick in
    let seen : planning_of c.self-2.inside ≡ unplanned f = c.self-2.view_is ∙ c.take_agreed.ensures ∙ ap unplanned (aged_is c.self.inside c.args.self.now c.tick.new.self c.args.tick c.self.invariant.0 c.tick.ensures.ticked c.self.view_is) in
    let node : IsNodeInView (settled_by f c.args.tick.settlings.items) c.settle_all.new.self c.settle_all.new.store =
    settled_node c.self-2.inside f c.in-Some.view c.deref_mut.result.now c.settle_all.new.self c.settle_all.new.store c.args.tick.settlings.items c.deref.result.now
    c.self-2.invariant.0 seen c.in-Some.is c.deref_mut.ensures.value c.deref.ensures.value c.settle_all.ensures in
    subst (λ (x : Viewed). IsReadyToSend x c.args.tick.batches.items) (sym c.deref_mut-in-Some.ensures.value)
    (next_settled f c.settle_all.new.self c.settle_all.new.store c.args.tick.settlings.items c.args.tick.batches.items node c.requires.fits.next)

pub invariant_of-self-in-Some-1 : goal.invariant_of-self-in-Some-1
invariant_of-self-in-Some-1 c =
    let f : Facts = ticked_facts c.args.self.now.now c.args.tick in
    let seen : planning_of c.self-2.inside ≡ unplanned f = c.self-2.view_is ∙ c.take_agreed.ensures ∙ ap unplanned (aged_is c.self.inside c.args.self.now c.tick.new.self c.args.tick c.self.invariant.0 c.tick.ensures.ticked c.self.view_is) in
    let node : IsNodeInView (settled_by f c.args.tick.settlings.items) c.settle_all.new.self c.settle_all.new.store =
    settled_node c.self-2.inside f c.in-Some.view c.deref_mut.result.now c.settle_all.new.self c.settle_all.new.store c.args.tick.settlings.items c.deref.result.now
    c.self-2.invariant.0 seen c.in-Some.is c.deref_mut.ensures.value c.deref.ensures.value c.settle_all.ensures in
    (ticking c.self-2.inside f c.in-Some.view (with_value (with_value c.in-Some.view c.settle_all.new.self) c.send_batches.new.self) c.settle_all.new.self c.settle_all.new.store c.args.tick.settlings.items c.args.tick.batches.items
    c.self-2.invariant.0 seen c.in-Some.is node (c.send_batches.ensures ∙ ap (λ (x : Viewed). sent_view x c.args.tick.batches.items) c.deref_mut-in-Some.ensures.value) c.requires.ranges).node

pub returns-in-Some : goal.returns-in-Some
returns-in-Some c =
    let f : Facts = ticked_facts c.args.self.now.now c.args.tick in
    let seen : planning_of c.self-2.inside ≡ unplanned f = c.self-2.view_is ∙ c.take_agreed.ensures ∙ ap unplanned (aged_is c.self.inside c.args.self.now c.tick.new.self c.args.tick c.self.invariant.0 c.tick.ensures.ticked c.self.view_is) in
    let node : IsNodeInView (settled_by f c.args.tick.settlings.items) c.settle_all.new.self c.settle_all.new.store =
    settled_node c.self-2.inside f c.in-Some.view c.deref_mut.result.now c.settle_all.new.self c.settle_all.new.store c.args.tick.settlings.items c.deref.result.now
    c.self-2.invariant.0 seen c.in-Some.is c.deref_mut.ensures.value c.deref.ensures.value c.settle_all.ensures in
    (ticking c.self-2.inside f c.in-Some.view (with_value (with_value c.in-Some.view c.settle_all.new.self) c.send_batches.new.self) c.settle_all.new.self c.settle_all.new.store c.args.tick.settlings.items c.args.tick.batches.items
    c.self-2.invariant.0 seen c.in-Some.is node (c.send_batches.ensures ∙ ap (λ (x : Viewed). sent_view x c.args.tick.batches.items) c.deref_mut-in-Some.ensures.value) c.requires.ranges).seen

pub returns-in_default : goal.returns-in_default
returns-in_default c =
    let f : Facts = ticked_facts c.args.self.now.now c.args.tick in
    let seen : planning_of c.self-2.inside ≡ unplanned f = c.self-2.view_is ∙ c.take_agreed.ensures ∙ ap unplanned (aged_is c.self.inside c.args.self.now c.tick.new.self c.args.tick c.self.invariant.0 c.tick.ensures.ticked c.self.view_is) in
    ticking_outside c.self-2.inside f c.args.tick.settlings.items c.args.tick.batches.items seen c.in_default.is c.requires.fits.settlings c.requires.fits.next
