use Rattle.audit_core.proofs.ReplicaLaws.{at_most_told}
use Rattle.audit_core.proofs.judge.Judge.holds_at_most.Goals as goal

pub returns : goal.returns
returns c = at_most_told c.args.self.now c.args.view c.args.node c.args.number c.content-held.result c.fold-fold.result c.is_at_most.result c.content-held.ensures c.fold-fold.ensures.said c.is_at_most.ensures
