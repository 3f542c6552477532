use Rattle.audit_core.proofs.LossChecks.{covers_nothing, covers_something}
use Rattle.audit_core.proofs.judge.Judge.covers_record.Goals as goal

pub returns-in-None : goal.returns-in-None
returns-in-None c = covers_nothing c.args.self.now c.args.node c.args.member c.args.of c.args.number c.content_at.result c.content_at.ensures c.in-None.is

pub returns-in-Some : goal.returns-in-Some
returns-in-Some c = covers_something c.args.self.now c.args.node c.args.member c.args.of c.args.number c.content_at.result c.content.result c.in-Some.held c.is_at_most.result c.content_at.ensures c.in-Some.is c.content.ensures c.is_at_most.ensures
