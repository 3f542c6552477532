use Rattle.std.proofs.Common.{sym, ap, subst, ◌∙◌}
use Rattle.std.specs.Vec.Iter.{into_iter_items}
use Rattle.node_rules.specs.ByParts.{sending_all}
use Rattle.node_view.specs.Fits.{IsReadyToSend}
use Rattle.node_view.specs.Views.{Viewed, viewed_key}
use Rattle.node_view.proofs.SendLaws.{first_member, first_next, rest_next, with_targets}
use Rattle.node_view.proofs.view.View.send_batches.Goals as goal

pub send_batch-requires-clause-member : goal.send_batch-requires-clause-member
send_batch-requires-clause-member c =
    let v = c.loop-to.self in
    let rest = into_iter_items c.next.new.self in
    let list = c.in-Some.ensures.steps.0 in
    first_member v.exchange.exchanged (viewed_key v) v.batches (c.in-Some.to, c.in-Some.batch) rest (subst (IsReadyToSend v) list c.loop-to.invariant.ready)

pub send_batch-requires-clause-next : goal.send_batch-requires-clause-next
send_batch-requires-clause-next c =
    let v = c.loop-to.self in
    let rest = into_iter_items c.next.new.self in
    let list = c.in-Some.ensures.steps.0 in
    first_next v.exchange.exchanged (viewed_key v) v.batches (c.in-Some.to, c.in-Some.batch) rest (subst (IsReadyToSend v) list c.loop-to.invariant.ready)

pub loop-to-preserved : goal.loop-to-preserved
loop-to-preserved c =
    let v = c.loop-to.self in
    let rest = into_iter_items c.next.new.self in
    let list = c.in-Some.ensures.steps.0 in
    let i = c.loop-to.invariant in
    let after = c.send_batch.ensures in
    record {
      can_next = tt;
      finite = tt;
      ready = subst (λ (w : Viewed). IsReadyToSend w rest) (sym after) (rest_next v.exchange.exchanged (viewed_key v) v.batches _ rest (subst (IsReadyToSend v) list i.ready));
      rest = ap (λ (w : Viewed). with_targets w (sending_all w.batches rest)) after ∙ (ap (λ bs. with_targets v (sending_all v.batches bs)) (sym list) ∙ i.rest);
    }
