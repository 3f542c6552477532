use Rattle.std.proofs.Common.{take}
use Rattle.audit_core.proofs.TrialLaws.{EntriesJoined}
use Rattle.audit_core.proofs.judge.Judge.try_entries.Given as goal

abbrev pub invariant-loop-m : goal.invariant-loop-m
invariant-loop-m l = EntriesJoined l.now l.view l.node (take l.m-index l.members) l.p l.fn.self l.self
