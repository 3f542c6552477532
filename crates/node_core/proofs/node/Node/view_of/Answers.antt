use Rattle.std.proofs.Common.{sym, ap, ◌∙◌}
use Rattle.cluster_types.specs.declared.cluster_key.ClusterKey.{ClusterKey}
use Rattle.node_rules.specs.Keys.{same_key}
use Rattle.node_core.proofs.HandlerLaws.{in_view_is}
use Rattle.node_core.proofs.node.Node.view_of.Goals as goal

pub returns-then-eq-clause-some : goal.returns-then-eq-clause-some
returns-then-eq-clause-some c =
    sym (in_view_is c.args.self.now.now c.in_ok-view.view.now c.args.key c.in_ok-view.ensures.view.viewed (sym c.in_ok-view.ensures.some)
    ∙ ap (λ (k : ClusterKey). same_key k c.args.key) (sym c.key.ensures) ∙ sym c.if-eq.ensures)

pub returns-else-eq-clause-some : goal.returns-else-eq-clause-some
returns-else-eq-clause-some c =
    sym (in_view_is c.args.self.now.now c.in_ok-view.view.now c.args.key c.in_ok-view.ensures.view.viewed (sym c.in_ok-view.ensures.some)
    ∙ ap (λ (k : ClusterKey). same_key k c.args.key) (sym c.key.ensures) ∙ sym c.if-eq.ensures)
