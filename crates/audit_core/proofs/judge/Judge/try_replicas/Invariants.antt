use Rattle.std.proofs.Common.{take}
use Rattle.audit_core.proofs.TrialLaws.{ReplicasJoined}
use Rattle.audit_core.proofs.judge.Judge.try_replicas.Given as goal

abbrev pub invariant-loop-node : goal.invariant-loop-node
invariant-loop-node l = ReplicasJoined l.now l.view (take l.node-index l.list) l.p l.fn.self l.self
