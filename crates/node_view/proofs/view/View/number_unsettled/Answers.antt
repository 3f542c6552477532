use Rattle.std.proofs.Common.{◌≡◌, arith}
use Rattle.cluster_types.specs.Partitions.{partition_count}
use Rattle.node_view.proofs.ByNumberLaws.{all_unsettled, none_unsettled, one_unsettled}
use Rattle.node_view.proofs.view.View.number_unsettled.Goals as goal
use Rattle.node_view.proofs.view.View.number_unsettled.Goals.{then-not-knows_settled, else-not-knows_settled}

pub loop-number-preserved : goal.loop-number-preserved
loop-number-preserved c =
    let v = c.args.self.now in
    let n = c.loop-number.number in
    let i = c.loop-number.invariant in
    elim c.if-not-knows_settled.branch [
      | then-not-knows_settled w ↦ record {
        counted = one_unsettled v n c.partition_at.result c.loop-number.unsettled c.if-not-knows_settled.unsettled c.knows_settled.result c.partition_at.ensures c.knows_settled.ensures w.if-not-knows_settled.true i.counted w.unsettled-is;
        few = omega (arith, w.unsettled-is, i.few);
      }
      | else-not-knows_settled w ↦ record {
        counted = none_unsettled v n c.partition_at.result c.loop-number.unsettled c.if-not-knows_settled.unsettled c.knows_settled.result c.partition_at.ensures c.knows_settled.ensures w.if-not-knows_settled.false i.counted w.unsettled-is;
        few = omega (arith, w.unsettled-is, i.few);
      }
    ]

pub returns : goal.returns
returns c =
    let whole : c.loop-number.number ≡ partition_count = omega (arith, c.loop-number-test.false, c.loop-number.auto.number-end) in
    all_unsettled c.args.self.now c.loop-number.number c.loop-number.unsettled whole c.loop-number.invariant.counted
