use Rattle.std.proofs.Common.{◌≡◌, ℕ, None, ap, ap₂, ◌∙◌}
use Rattle.cluster_types.specs.declared.cluster_key.ClusterKey.{ClusterKey}
use Rattle.clustering.specs.Agreeing.{Agreeing}
use Rattle.node_rules.specs.Agreement.{agreement_of}
use Rattle.node_rules.specs.Notes.{stopped}
use Rattle.node_rules.specs.Steps.{Planning}
use Rattle.node_core.proofs.CommitLaws.{stopped_node, that_stopped}
use Rattle.node_core.proofs.NodeLaws.{none_planned, unplanned_view}
use Rattle.node_core.proofs.node.Node.take_stop.Goals as goal

-- what is left of the agreement of a node that promised the first key and entered the second
abbrev restarted : ℕ → ClusterKey → ClusterKey → Agreeing
restarted me promised last = record { me = me; agreement = agreement_of promised last }

pub invariant_of-self : goal.invariant_of-self
invariant_of-self c =
    let n = c.self.inside in
    let none : n.planned ≡ None = none_planned _ n.planned (ap (λ (p : Planning). p.next) c.self.view_is ∙ c.requires.unplanned) in
    let agree : c.restart-self-inside.result ≡ restarted n.me n.agree.agreement.promised n.agree.agreement.last =
    c.restart-self-inside.ensures ∙ ap₂ (λ (p l : ClusterKey). restarted n.me p l) c.promised.ensures.value c.last.ensures.value in
    rw (c.stopped.ensures, agree) (that_stopped n c.self.invariant.0 none)

pub returns : goal.returns
returns c =
    let n = c.self.inside in
    let none : n.planned ≡ None = none_planned _ n.planned (ap (λ (p : Planning). p.next) c.self.view_is ∙ c.requires.unplanned) in
    let agree : c.restart-self-inside.result ≡ restarted n.me n.agree.agreement.promised n.agree.agreement.last =
    c.restart-self-inside.ensures ∙ ap₂ (λ (p l : ClusterKey). restarted n.me p l) c.promised.ensures.value c.last.ensures.value in
    rw (c.stopped.ensures, agree)
    (unplanned_view (stopped_node n) (stopped c.args.self.now.now) none (ap (λ (p : Planning). stopped p.now) c.self.view_is))
