use Rattle.std.proofs.Common.{take}
use Rattle.audit_core.specs.Ending.{JoinsRecords}
use Rattle.audit_core.proofs.judge.Judge.try_suspects.Given as goal

abbrev pub invariant-loop-number : goal.invariant-loop-number
invariant-loop-number l = JoinsRecords l.self l.view (take l.number-index l.numbers) l.p
