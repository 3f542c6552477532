use Rattle.std.proofs.Common.{Option, sym, subst}
use Rattle.conflict_order.specs.declared.version.Version.{Version}
use Rattle.node_view.specs.Plans.{with_newer}
use Rattle.node_view.specs.Views.{IsNodeInView}
use Rattle.node_view.proofs.view.View.merge_newer.Goals as goal

pub returns-in-Some : goal.returns-in-Some
returns-in-Some c f h =
    subst (λ (o : Option Version). IsNodeInView (with_newer f c.args.digest o) c.merge_one.new.self c.merge_one.new.store) (sym c.in-Some.is) (c.merge_one.ensures.node f h)

pub returns-in-None : goal.returns-in-None
returns-in-None c f h =
    subst (λ (o : Option Version). IsNodeInView (with_newer f c.args.digest o) c.args.self.now c.args.store.now) (sym c.in-None.is) h
