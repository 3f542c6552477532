use Rattle.std.proofs.Common.{subst}
use Rattle.node_rules.specs.Facts.{Facts}
use Rattle.node_view.specs.Views.{IsNodeInView}
use Rattle.node_view.proofs.FinishLaws.{all_finished, finished_node, finishing, handed_on}
use Rattle.node_view.proofs.HeardLaws.{other_member}
use Rattle.node_view.proofs.view.View.end_exchange.Goals as goal

pub take_last_row-requires-clause-member : goal.take_last_row-requires-clause-member
take_last_row-requires-clause-member c = other_member c.args.self.now c.args.store.now c.args.last.from c.requires.fits.absent.member

pub take_last_row-requires-clause-targets : goal.take_last_row-requires-clause-targets
take_last_row-requires-clause-targets c = handed_on c.args.self.now c.args.store.now c.args.last c.requires.fits

pub returns : goal.returns
returns c f h =
    let v = c.args.self.now in
    let w = c.take_last_row.new.self in
    let s = c.args.store.now in
    let u = c.stamp_empty_copies.new.store in
    let l = c.args.last in
    let after = finished_node f v w s l c.requires.fits c.take_last_row.ensures.alike c.take_last_row.ensures.watch h in
    subst (λ (g : Facts). IsNodeInView g w u) (all_finished f l) (c.stamp_empty_copies.ensures (finishing f l) after)
