use Rattle.audit_core.proofs.LossChecks.{newest_then, newest_else}
use Rattle.audit_core.proofs.judge.Judge.is_newest.Goals as goal

pub returns-then-has : goal.returns-then-has
returns-then-has c = newest_then c.args.self.now c.versions-versions.result c.args.number c.newest-newest.result c.args.held c.has.result c.at_most.result
    c.versions-versions.ensures.lines c.versions-versions.ensures.policy c.newest-newest.ensures c.has.ensures c.if-has.true c.at_most.ensures

pub returns-else-has : goal.returns-else-has
returns-else-has c = newest_else c.args.self.now c.versions-versions.result c.args.number c.newest-newest.result c.args.held c.has.result
    c.versions-versions.ensures.lines c.versions-versions.ensures.policy c.newest-newest.ensures c.has.ensures c.if-has.false
