use Rattle.std.proofs.Common.{◌+◌, take}
use Rattle.audit_core.specs.Known.{kept_view}
use Rattle.audit_core.specs.Trying.{settled_list}
use Rattle.audit_core.proofs.BeginLaws.{Beginning}
use Rattle.audit_core.proofs.judge.Judge.try_settled_before.Given as goal

abbrev pub invariant-loop-i : goal.invariant-loop-i
invariant-loop-i l = Beginning (l.line + 1) l.view (take l.i (settled_list (kept_view l.fn.self l.view))) l.fn.self l.self
