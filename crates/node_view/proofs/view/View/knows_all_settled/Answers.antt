use Rattle.std.proofs.Common.{ap}
use Rattle.node_view.specs.Views.{Viewed}
use Rattle.node_view.proofs.SettledLaws.{none_left}
use Rattle.node_view.proofs.view.View.knows_all_settled.Goals as goal

pub returns : goal.returns
returns c f h = none_left f c.args.self.now c.self.inside.unsettled h (ap (λ (v : Viewed). v.watch.unsettled) c.self.view_is)
