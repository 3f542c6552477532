use Rattle.std.proofs.Common.{take}
use Rattle.audit_core.specs.Emptied.{written_list}
use Rattle.audit_core.specs.Known.{kept_view}
use Rattle.audit_core.proofs.EmptyLaws.{Emptying}
use Rattle.audit_core.proofs.judge.Judge.try_written.Given as goal

abbrev pub invariant-loop-i : goal.invariant-loop-i
invariant-loop-i l = Emptying l.master l.view (take l.i (written_list (kept_view l.fn.self l.view))) l.fn.self l.self
