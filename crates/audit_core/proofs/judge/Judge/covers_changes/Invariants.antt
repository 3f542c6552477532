use Rattle.audit_state.specs.Stores.{changes_of}
use Rattle.audit_core.specs.Replicas.{covers_change}
use Rattle.audit_core.proofs.CoverageLaws.{PassedTo}
use Rattle.audit_core.proofs.judge.Judge.covers_changes.Given as goal

abbrev pub invariant-loop-i : goal.invariant-loop-i
invariant-loop-i l = PassedTo (covers_change l.self l.node l.member l.of) (changes_of l.self.stores l.changed l.p) l.first l.i
