use Rattle.std.proofs.Common.{sym, ◌∙◌}
use Rattle.heartbeat.proofs.EntryLaws.{shown_all}
use Rattle.heartbeat.proofs.adjacency.Adjacency.all_show.Goals as goal

pub returns : goal.returns
returns c =
    rw (sym c.self.view_is)
    (c.all_show.ensures ∙ rw c.as_slice.ensures.same (shown_all c.self.inside.me c.self.inside.heard c.args.key))
