use Rattle.std.proofs.Common.{Bool, List, subst}
use Rattle.node_view.specs.Views.{IsSeenTo}
use Rattle.node_view.proofs.SeenLaws.{in_view_left, live_left}
use Rattle.node_view.proofs.view.View.see_settled_at.Goals as goal

pub returns-clause-live : goal.returns-clause-live
returns-clause-live c f h content =
    let v = c.args.self.now in
    let w = c.count_settled.new.self in
    let p = c.args.p in
    subst (λ (live : List Bool). IsSeenTo p f live c.refresh.new.self.watch.live) (live_left v w p c.count_settled.ensures)
    (c.refresh.ensures.live f (in_view_left f v w p c.count_settled.ensures h) content)
