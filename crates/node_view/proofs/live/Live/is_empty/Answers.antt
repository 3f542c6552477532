use Rattle.node_view.proofs.LiveLaws.{count_says_clear}
use Rattle.node_view.proofs.live.Live.is_empty.Goals as goal

pub returns : goal.returns
returns c = rw (← c.self.view_is) (count_says_clear _ _ c.self.invariant.1)
