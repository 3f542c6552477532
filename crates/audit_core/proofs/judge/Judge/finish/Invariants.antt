use Rattle.std.proofs.Common.{◌+◌, drop}
use Rattle.audit_core.proofs.FinishLaws.{CountsOut}
use Rattle.audit_core.proofs.judge.Judge.finish.Given as goal

abbrev pub invariant-loop-p : goal.invariant-loop-p
invariant-loop-p l = CountsOut (l.line + 1) l.view (drop l.p-index l.p-items) l.initial.self l.self
