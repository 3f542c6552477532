use Rattle.std.proofs.Common.{Option, sym, subst}
use Rattle.node_view.specs.declared.view_step.Counted.{Counted}
use Rattle.node_view.specs.Plans.{with_count}
use Rattle.node_view.specs.Views.{IsNodeInView}
use Rattle.node_view.proofs.view.View.count.Goals as goal

pub count_write-requires-clause-room : goal.count_write-requires-clause-room
count_write-requires-clause-room c = c.requires.room c.in-Some.counted c.in-Some.is

pub returns-in-Some-clause-node : goal.returns-in-Some-clause-node
returns-in-Some-clause-node c f h =
    subst (λ (o : Option Counted). IsNodeInView (with_count f c.args.p o) c.count_write.new.self c.count_write.new.store) (sym c.in-Some.is) (c.count_write.ensures.node f h)

pub returns-in-None-clause-node : goal.returns-in-None-clause-node
returns-in-None-clause-node c f h = subst (λ (o : Option Counted). IsNodeInView (with_count f c.args.p o) c.args.self.now c.args.store.now) (sym c.in-None.is) h
