use Rattle.std.proofs.Common.{List, ℕ, ◌++◌, ◌+◌, drop, sym, ap, subst, ◌∙◌}
use Rattle.cluster_types.specs.NodeLists.{IsNodeList}
use Rattle.cluster_rules.specs.Opening.{declared_nodes}
use Rattle.world.proofs.OpeningLaws.{next_new, node_next}
use Rattle.world.proofs.opening.declared_ids.Goals as goal

pub push-requires-clause-new : goal.push-requires-clause-new
push-requires-clause-new c =
    let header = c.args.header.now in
    let l = c.loop-line in
    next_new l.ids (declared_nodes (drop (l.line-index + 1) header)) c.in-Node.node
    (subst IsNodeList (sym (ap (λ (ns : List ℕ). l.ids ++ ns) (sym (node_next header l.line-index c.line-item.result c.in-Node.node c.in-Node.rack c.loop-line-test.true c.line-item.is c.in-Node.is)) ∙ l.invariant)) c.requires)
