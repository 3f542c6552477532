use Rattle.std.proofs.Common.{sym, ◌∙◌}
use Rattle.heartbeat.proofs.EntryLaws.{shown_ids, nodes_falling}
use Rattle.heartbeat.proofs.adjacency.Adjacency.hears.Goals as goal

pub returns-clause-value : goal.returns-clause-value
returns-clause-value c = rw (sym c.self.view_is) (c.ids_of.ensures ∙ rw c.as_slice.ensures.same (sym (shown_ids c.self.inside.heard)))

pub returns-clause-order : goal.returns-clause-order
returns-clause-order c = rw c.ids_of.ensures (rw c.as_slice.ensures.same (nodes_falling c.self.inside.heard c.self.invariant.falls))
