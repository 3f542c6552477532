use Rattle.audit_state.specs.Stores.{changes_of}
use Rattle.audit_core.specs.Replicas.{holds_change}
use Rattle.audit_core.proofs.CoverageLaws.{PassedTo}
use Rattle.audit_core.proofs.judge.Judge.holds_no_more_since.Given as goal

abbrev pub invariant-loop-i : goal.invariant-loop-i
invariant-loop-i l = PassedTo (holds_change l.self l.view l.node) (changes_of l.self.stores l.node l.p) l.first l.i
