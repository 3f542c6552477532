use Rattle.std.proofs.Common.{sym, subst}
use Rattle.node_view.specs.declared.view_step.ViewStep.{ViewStep}
use Rattle.node_view.specs.Fits.{IsReady}
use Rattle.node_view.specs.Plans.{view_taken}
use Rattle.node_view.specs.Views.{IsNodeInView}
use Rattle.node_view.proofs.OutcomeLaws.{acknowledges, answers, closes}
use Rattle.node_view.proofs.HeardLaws.{other_member}
use Rattle.node_view.proofs.TakeLaws.{acked_node, row_node, some_missing}
use Rattle.node_view.proofs.view.View.take_step.Goals as goal

pub add_row-requires-clause-member : goal.add_row-requires-clause-member
add_row-requires-clause-member c =
    let r = subst (λ (p : ViewStep). IsReady c.args.self.now c.args.store.now p) c.in-Row.is c.requires in
    other_member c.args.self.now c.args.store.now c.in-Row.from r.fits.absent.member

pub add_row-requires-clause-lacking : goal.add_row-requires-clause-lacking
add_row-requires-clause-lacking c =
    let r = subst (λ (p : ViewStep). IsReady c.args.self.now c.args.store.now p) c.in-Row.is c.requires in
    r.fits.absent.lacking

pub add_row-requires-clause-waiting : goal.add_row-requires-clause-waiting
add_row-requires-clause-waiting c =
    let r = subst (λ (p : ViewStep). IsReady c.args.self.now c.args.store.now p) c.in-Row.is c.requires in
    some_missing _ r.fits.more

pub returns-in-Row : goal.returns-in-Row
returns-in-Row c f h =
    subst (λ (p : ViewStep). IsNodeInView (view_taken f p) c.add_row.new.self c.args.store.now) (sym c.in-Row.is)
    (row_node f c.args.self.now c.add_row.new.self c.args.store.now c.in-Row.from c.in-Row.row c.add_row.ensures.view c.add_row.ensures.waiting h)

pub returns-in-BatchAcked : goal.returns-in-BatchAcked
returns-in-BatchAcked c f h =
    subst (λ (p : ViewStep). IsNodeInView (view_taken f p) c.take_batch_ack.new.self c.args.store.now) (sym c.in-BatchAcked.is)
    (acked_node f c.args.self.now c.take_batch_ack.new.self c.args.store.now c.in-BatchAcked.from c.in-BatchAcked.number c.take_batch_ack.ensures h)

pub returns-in-WriteAcked : goal.returns-in-WriteAcked
returns-in-WriteAcked c f h =
    subst (λ (p : ViewStep). IsNodeInView (view_taken f p) c.acknowledge.new.self c.args.store.now) (sym c.in-WriteAcked.is)
    (acknowledges f c.args.self.now c.acknowledge.new.self c.args.store.now c.in-WriteAcked.from c.in-WriteAcked.transaction c.acknowledge.ensures h)

pub close-requires : goal.close-requires
close-requires c =
    let r = subst (λ (p : ViewStep). IsReady c.args.self.now c.args.store.now p) c.in-Done.is c.requires in
    r.fits

pub returns-in-Done : goal.returns-in-Done
returns-in-Done c f h =
    subst (λ (p : ViewStep). IsNodeInView (view_taken f p) c.close.new.self c.args.store.now) (sym c.in-Done.is)
    (closes f c.args.self.now c.close.new.self c.args.store.now c.in-Done.transaction c.close.ensures h)

pub returns-in-Answered : goal.returns-in-Answered
returns-in-Answered c f h =
    subst (λ (p : ViewStep). IsNodeInView (view_taken f p) c.answer.new.self c.args.store.now) (sym c.in-Answered.is)
    (answers f c.args.self.now c.answer.new.self c.args.store.now c.in-Answered.from c.in-Answered.transaction c.in-Answered.version c.answer.ensures h)

pub end_exchange-requires : goal.end_exchange-requires
end_exchange-requires c = subst (λ (p : ViewStep). IsReady c.args.self.now c.args.store.now p) c.in-LastRow.is c.requires

pub returns-in-LastRow : goal.returns-in-LastRow
returns-in-LastRow c f h = subst (λ (p : ViewStep). IsNodeInView (view_taken f p) c.end_exchange.new.self c.end_exchange.new.store) (sym c.in-LastRow.is) (c.end_exchange.ensures f h)

pub merge-requires : goal.merge-requires
merge-requires c = subst (λ (p : ViewStep). IsReady c.args.self.now c.args.store.now p) c.in-Merged.is c.requires

pub returns-in-Merged : goal.returns-in-Merged
returns-in-Merged c f h = subst (λ (p : ViewStep). IsNodeInView (view_taken f p) c.merge.new.self c.merge.new.store) (sym c.in-Merged.is) (c.merge.ensures f h)

pub take_progress-requires : goal.take_progress-requires
take_progress-requires c = subst (λ (p : ViewStep). IsReady c.args.self.now c.args.store.now p) c.in-Progressed.is c.requires

pub returns-in-Progressed : goal.returns-in-Progressed
returns-in-Progressed c f h = subst (λ (p : ViewStep). IsNodeInView (view_taken f p) c.take_progress.new.self c.args.store.now) (sym c.in-Progressed.is) (c.take_progress.ensures f h)

pub replicate-requires : goal.replicate-requires
replicate-requires c = subst (λ (p : ViewStep). IsReady c.args.self.now c.args.store.now p) c.in-Replicated.is c.requires

pub returns-in-Replicated : goal.returns-in-Replicated
returns-in-Replicated c f h = subst (λ (p : ViewStep). IsNodeInView (view_taken f p) c.replicate.new.self c.replicate.new.store) (sym c.in-Replicated.is) (c.replicate.ensures f h)

pub end_answers-requires : goal.end_answers-requires
end_answers-requires c = subst (λ (p : ViewStep). IsReady c.args.self.now c.args.store.now p) c.in-Resolved.is c.requires

pub returns-in-Resolved : goal.returns-in-Resolved
returns-in-Resolved c f h = subst (λ (p : ViewStep). IsNodeInView (view_taken f p) c.end_answers.new.self c.end_answers.new.store) (sym c.in-Resolved.is) (c.end_answers.ensures f h)

pub open-requires : goal.open-requires
open-requires c = subst (λ (p : ViewStep). IsReady c.args.self.now c.args.store.now p) c.in-Opened.is c.requires

pub returns-in-Opened : goal.returns-in-Opened
returns-in-Opened c f h = subst (λ (p : ViewStep). IsNodeInView (view_taken f p) c.open.new.self c.open.new.store) (sym c.in-Opened.is) (c.open.ensures f h)
