use Rattle.std.proofs.Common.{take}
use Rattle.audit_core.specs.Emptied.{stay_list}
use Rattle.audit_core.specs.Known.{node_at}
use Rattle.audit_core.proofs.EmptyLaws.{Emptying}
use Rattle.audit_core.proofs.judge.Judge.try_stay.Given as goal

abbrev pub invariant-loop-i : goal.invariant-loop-i
invariant-loop-i l = Emptying l.master l.view (take l.i (stay_list (node_at l.fn.self l.node))) l.fn.self l.self
