use Rattle.node_view.specs.Settlings.{here_of}
use Rattle.node_view.specs.Views.{IsQuiet}
use Rattle.node_view.proofs.WakeLaws.{quiet_from}
use Rattle.node_view.proofs.view.View.is_live_in.Goals as goal

pub returns-then-is_asleep : goal.returns-then-is_asleep
returns-then-is_asleep c f h held off = IsQuiet.asleep (c.is_asleep.ensures c.if-is_asleep.true f h)

pub returns : goal.returns
returns c f h held off = quiet_from f c.args.p (here_of c.here.result) (c.here.ensures f h held) (c.is_live.ensures off)
