use Rattle.std.proofs.Common.{max}
use Rattle.clustering.specs.Stages.{IsProposing}
use Rattle.clustering.proofs.StageLaws.{proposing_seen}
use Rattle.clustering.proofs.stage.Stage.seeing.Goals as goal

pub returns-in-Proposing-clause-stage : goal.returns-in-Proposing-clause-stage
returns-in-Proposing-clause-stage c =
    let was : IsProposing c.in-Proposing.proposing = rw c.in-Proposing.is at c.requires in
    rw c.seeing-in-Proposing.ensures (proposing_seen c.in-Proposing.proposing (max c.in-Proposing.proposing.keys.seen c.args.key.round) was)
