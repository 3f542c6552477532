use Rattle.std.proofs.Common.{take}
use Rattle.audit_core.proofs.ShownLaws.{Told}
use Rattle.audit_core.proofs.judge.Judge.wholes.Given as goal

abbrev pub invariant-loop-node : goal.invariant-loop-node
invariant-loop-node l = Told l.fn.self l.self l.view l.p l.found.items (take l.node-index l.fn.list)
