use Rattle.std.proofs.Common.{ℕ, List, ◌<◌, length, get_or, ap, sym, subst, ◌∙◌}
use Rattle.partition_lists.proofs.InOrderLaws.{Has}
use Rattle.node_core.specs.Peers.{ArePeers, IsFactor}
use Rattle.node_rules.specs.Steps.{unplanned}
use Rattle.cluster_rules.specs.World.{declared}
use Rattle.world.proofs.OpeningLaws.{are_peers, at_in_order, factor_fits, node_made, node_more}
use Rattle.world.proofs.opening.declared_nodes.Goals as goal

pub with_role-requires-clause-peers : goal.with_role-requires-clause-peers
with_role-requires-clause-peers c =
    let has = at_in_order c.args.all.now c.loop-id.id-index c.id-item.result (subst (λ (ids : List ℕ). c.loop-id.id-index < length ids) c.requires.ids c.loop-id-test.true) (c.id-item.is ∙ ap (λ (ids : List ℕ). get_or ids c.loop-id.id-index c.id-item.result) c.requires.ids) in
    subst (λ (ps : List ℕ). ArePeers c.id-item.result ps) (sym c.without.ensures) (are_peers c.args.all.now c.id-item.result c.requires.nodes has)

pub with_role-requires-clause-factor : goal.with_role-requires-clause-factor
with_role-requires-clause-factor c = subst IsFactor (sym c.declared_factor-factor.ensures) (factor_fits c.args.header.now c.requires.ranges)

pub loop-id-preserved : goal.loop-id-preserved
loop-id-preserved c =
    let has = at_in_order c.args.all.now c.loop-id.id-index c.id-item.result (subst (λ (ids : List ℕ). c.loop-id.id-index < length ids) c.requires.ids c.loop-id-test.true) (c.id-item.is ∙ ap (λ (ids : List ℕ). get_or ids c.loop-id.id-index c.id-item.result) c.requires.ids) in
    node_more (λ n. unplanned (declared c.args.header.now n)) c.args.ids.now c.loop-id.id-index c.id-item.result c.loop-id.nodes.items c.push.new.self.items c.in_ok-node.node c.loop-id-test.true c.id-item.is
    (node_made c.args.header.now c.id-item.result c.in_ok-node.node c.declared_role-role.result c.without.result c.args.all.now c.declared_factor-factor.result c.declared_policy-by.result
    (subst (λ (ns : List ℕ). Has ns c.id-item.result) c.requires.all has) c.in_ok-node.ensures c.declared_role-role.ensures c.without.ensures c.requires.all c.declared_factor-factor.ensures c.declared_policy-by.ensures)
    c.in_ok-push.ensures.items c.loop-id.invariant
