use Rattle.std.proofs.Common.{sym}
use Rattle.std.proofs.lemmas.List.{length-map}
use Rattle.heartbeat.proofs.EntryLaws.{shown_ids, nodes_falling}
use Rattle.heartbeat.proofs.adjacency.Adjacency.count.Goals as goal

pub returns-clause-value : goal.returns-clause-value
returns-clause-value c = rw (sym c.self.view_is, shown_ids c.self.inside.heard, c.as_slice.ensures.same) (sym (length-map c.self.inside.heard (λ e. e.node)))

pub returns-clause-order : goal.returns-clause-order
returns-clause-order c = rw (sym c.self.view_is, shown_ids c.self.inside.heard) (nodes_falling c.self.inside.heard c.self.invariant.falls)
