use Rattle.std.proofs.Common.{arith, ap, length, length-take, take}
use Rattle.cluster_types.proofs.DistinctLaws.{fresh_next, fresh_without, length_without}
use Rattle.cluster_types.proofs.node_list.NodeList.without.Goals as goal
use Rattle.std.proofs.lemmas.Grind.{common_steps}

pub push-requires-clause-room : goal.push-requires-clause-room
push-requires-clause-room c =
    let ids = c.as_slice-n-items.result.now in
    omega (arith, ap length c.loop-n.invariant, length_without (take c.loop-n.n-index ids) c.args.id, length-take c.loop-n.n-index ids, ap length c.as_slice-n-items.ensures.same, c.as_slice-n-items.ensures.valid.limit)

pub push-requires-clause-new : goal.push-requires-clause-new
push-requires-clause-new c =
    rw c.loop-n.invariant
    (fresh_without (take c.loop-n.n-index c.as_slice-n-items.result.now) c.args.id c.n-item.result
    (fresh_next _ _ c.n-item.result c.loop-n-test.true c.n-item.is (rw c.as_slice-n-items.ensures.same c.as_slice-n-items.ensures.valid.distinct)))

pub loop-n-preserved : goal.loop-n-preserved
loop-n-preserved c = grind (arith, common_steps)
