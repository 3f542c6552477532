use Rattle.audit_core.proofs.ReplicaLaws.{fold_told, fold_not}
use Rattle.audit_core.proofs.judge.Judge.holds_fold.Goals as goal

pub returns-then-is_at_most : goal.returns-then-is_at_most
returns-then-is_at_most c = fold_told c.args.self.now c.args.view c.args.node c.args.number c.content-held.result c.fold-fold.result c.is_at_most.result c.is_at_most-then-is_at_most.result c.content-held.ensures c.fold-fold.ensures.said c.is_at_most.ensures c.if-is_at_most.true c.is_at_most-then-is_at_most.ensures

pub returns-else-is_at_most : goal.returns-else-is_at_most
returns-else-is_at_most c = fold_not c.args.self.now c.args.view c.args.node c.args.number c.content-held.result c.fold-fold.result c.is_at_most.result c.content-held.ensures c.fold-fold.ensures.said c.is_at_most.ensures c.if-is_at_most.false
