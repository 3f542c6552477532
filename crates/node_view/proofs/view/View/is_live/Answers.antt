use Rattle.node_view.proofs.WakeLaws.{unfinished}
use Rattle.node_view.proofs.view.View.is_live.Goals as goal

pub returns-in-Some : goal.returns-in-Some
returns-in-Some c f h held finished off = c.is_live_in.ensures f h held off

pub returns-in-None : goal.returns-in-None
returns-in-None c f h held finished off = absurd (unfinished f c.args.self.now h finished c.in-None.ensures.some)
