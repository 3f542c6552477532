use Rattle.cluster_types.specs.Partitions.{partition_of}
use Rattle.node_rules.specs.Facts.{list_at}
use Rattle.node_steps.proofs.OpeningLaws.{refused_by_acting}
use Rattle.node_core.proofs.node.Node.refusal_of.Goals as goal

pub returns-in-Ok : goal.returns-in-Ok
returns-in-Ok c =
    let f = c.args.self.now.now in
    let d = c.args.digest.now in
    refused_by_acting f (list_at f (partition_of d)) d c.acting_refusal.result c.in-Ok.ensures.refused (c.acting_refusal.ensures f c.in-Ok.ensures.view.viewed)
