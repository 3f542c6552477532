use Rattle.std.proofs.Common.{◌≤◌, length, sym, subst, arith}
use Rattle.audit_core.specs.Replicas.{StopsReplicas}
use Rattle.audit_core.proofs.TouchLaws.{err_then}
use Rattle.audit_core.proofs.TrialLaws.{replicas_first, replicas_more, replicas_part, replicas_done}
use Rattle.audit_core.proofs.judge.Judge.try_replicas.Goals as goal

pub loop-node-init : goal.loop-node-init
loop-node-init c = replicas_first c.args.now c.args.view c.args.p c.args.self.now

pub loop-node-preserved : goal.loop-node-preserved
loop-node-preserved c = replicas_more c.args.now c.args.view c.args.list.now c.node-item.result c.loop-node.node-index c.args.p c.args.self.now c.loop-node.self c.try_replica.new.self
    (omega (arith, c.loop-node-test.true)) c.node-item.is c.loop-node.invariant c.in_ok-try_replica.ensures.ok c.in_ok-try_replica.ensures.keeps

pub returns-in_err-try_replica-clause-err : goal.returns-in_err-try_replica-clause-err
returns-in_err-try_replica-clause-err c = err_then c.from_residual.result _ _
    (λ e is. subst (StopsReplicas c.args.now c.args.view c.args.list.now c.args.p c.args.self.now) (sym is)
    (replicas_part c.args.now c.args.view c.args.list.now c.node-item.result c.loop-node.node-index c.args.p c.args.self.now c.loop-node.self c.in_err-try_replica.field-0.0
    (omega (arith, c.loop-node-test.true)) c.node-item.is c.loop-node.invariant c.in_err-try_replica.ensures.err))
    c.from_residual.ensures.1

pub returns-clause-ok : goal.returns-clause-ok
returns-clause-ok c =
    let done : length c.args.list.now ≤ c.loop-node.node-index = omega (arith, c.loop-node-test.false) in
    (replicas_done c.args.now c.args.view c.args.list.now c.loop-node.node-index c.args.p c.args.self.now c.loop-node.self done c.loop-node.invariant).joins

pub returns-clause-keeps : goal.returns-clause-keeps
returns-clause-keeps c = c.loop-node.invariant.keeps
