use Rattle.std.proofs.Common.{◌≡◌, false, true}
use Rattle.cluster_types.proofs.DistinctLaws.{distinct_more}
use Rattle.cluster_types.proofs.node_list.first_repeat.Goals as goal

pub loop-i-preserved : goal.loop-i-preserved
loop-i-preserved c =
    distinct_more _ _ c.index-ids-i.result c.loop-i-test.true c.index-ids-i.is c.loop-i.invariant
    (λ among. let wrong : false ≡ true = c.if-is_among.ensures.found.1 among in cc)
