use Rattle.clustering.proofs.StageLaws.{proposing_accepted}
use Rattle.clustering.proofs.stage.Proposing.accepted_by.Goals as goal

pub returns-clause-stage : goal.returns-clause-stage
returns-clause-stage c = rw c.without.ensures (proposing_accepted c.args.self.now c.args.from c.requires)
