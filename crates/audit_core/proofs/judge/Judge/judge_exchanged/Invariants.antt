use Rattle.audit_core.specs.Wholes.{JudgesSome}
use Rattle.audit_core.proofs.judge.Judge.judge_exchanged.Given as goal

abbrev pub invariant-loop-i : goal.invariant-loop-i
invariant-loop-i l = JudgesSome l.node l.p l.i l.fn.self l.self
