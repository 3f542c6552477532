use Rattle.node_view.proofs.WakeLaws.{seen_to}
use Rattle.node_view.proofs.view.View.refresh.Goals as goal

pub returns-clause-live : goal.returns-clause-live
returns-clause-live c f h held =
    seen_to c.args.p f c.args.self.now c.set_live.new.self c.is_live-is_live.result h c.set_live.ensures.row c.set_live.ensures.set (c.is_live-is_live.ensures f h held)
