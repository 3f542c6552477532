use Rattle.std.proofs.Common.{take}
use Rattle.audit_core.specs.Known.{view_at}
use Rattle.audit_core.proofs.TouchedLaws.{Touching}
use Rattle.audit_core.proofs.judge.Judge.touch_all.Given as goal

abbrev pub invariant-loop-number : goal.invariant-loop-number
invariant-loop-number l = Touching (view_at l.fn.self l.node) (take l.number-index l.fn.numbers) l.p l.fn.self l.self
