use Rattle.audit_core.proofs.LossChecks.{merge_tried, below_said}
use Rattle.audit_core.proofs.judge.Judge.was_applied.Goals as goal

pub returns-clause-said : goal.returns-clause-said
returns-clause-said c = below_said c.args.self.now c.versions.result c.args.number c.args.place c.newest.result c.at_most.result c.versions.ensures.lines c.versions.ensures.policy c.newest.ensures c.at_most.ensures

pub returns-clause-fits : goal.returns-clause-fits
returns-clause-fits c = λ i n k d v knows named stands. merge_tried c.args.self.now i n c.args.number c.args.place k d v c.at_most.result knows named stands
    (below_said c.args.self.now c.versions.result c.args.number c.args.place c.newest.result c.at_most.result c.versions.ensures.lines c.versions.ensures.policy c.newest.ensures c.at_most.ensures)
