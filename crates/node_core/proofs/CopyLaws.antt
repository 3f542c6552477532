-- A copy of a node's part that went on is what becomes of the part that is seen.
use Rattle.std.proofs.Common.{◌≡◌, ℕ, sym, ap, ap₂, subst, ◌∙◌}
use Rattle.cluster_types.specs.declared.member.Role.{Role}
use Rattle.clustering.specs.Agreeing.{Agreeing, with_agreement}
use Rattle.heartbeat.specs.Adjacent.{Adjacent}
use Rattle.node_rules.specs.Agreement.{Agreement}
use Rattle.node_rules.specs.Hearing.{ticked}
use Rattle.node_rules.specs.Steps.{Planning}
use Rattle.node_core.specs.declared.node.Node.TheInside.{Inside}
use Rattle.node_core.specs.Nodes.{planning_of, node_facts}
use Rattle.node_steps.specs.Ranges.{HasRanges}
use Rattle.node_steps.proofs.RangeLaws.{HasKeys, keys_of, ranges_agreed}
use Rattle.node_core.proofs.PlannedTickLaws.{heard_as}

-- what the node hears is one tick older
pub heard_so : (n : Inside) (p : Planning) (x y : Adjacent) → planning_of n ≡ p → n.hearing.me ≡ n.me → n.hearing.role ≡ n.role
    → x ≡ n.hearing → y ≡ record x { hearing = ticked x.me x.role x.hearing }
    → y ≡ record { me = p.now.me; role = p.now.role; hearing = ticked p.now.me p.now.role p.now.hearing }
heard_so n p x y seen me role copied aged_one =
    aged_one ∙ ap (λ (z : Adjacent). record z { hearing = ticked z.me z.role z.hearing }) copied
    ∙ ap₂ (λ (m : ℕ) (r : Role). heard_as m r (ticked m r n.hearing.hearing)) me role
    ∙ ap (λ (q : Planning). heard_as q.now.me q.now.role (ticked q.now.me q.now.role q.now.hearing)) seen

-- ---- the agreement of a node

-- what an agreement tells is told of the node's
pub answer_is : {S : Type 0} (n : Inside) (p : Planning) (x : Agreeing) (s : S) (of : Agreement → S)
    → planning_of n ≡ p → x ≡ n.agree → s ≡ of x.agreement → s ≡ of p.now.agreement
answer_is n p x s of seen copied told =
    told ∙ ap (λ (z : Agreeing). of z.agreement) copied ∙ ap (λ (q : Planning). of q.now.agreement) seen

-- where a copy of the node's agreement went on, the node's has
pub agreement_is : (n : Inside) (p : Planning) (x y : Agreeing) (onward : Agreement → Agreement)
    → planning_of n ≡ p → x ≡ n.agree → y ≡ with_agreement x (onward x.agreement) → y.agreement ≡ onward p.now.agreement
agreement_is n p x y onward seen copied went =
    answer_is n p x y.agreement onward seen copied (ap (λ (z : Agreeing). z.agreement) went)

pub ranges_after : (n : Inside) (p : Planning) (a : Agreement) (onward : Agreement → Agreement)
    → planning_of n ≡ p → HasRanges (node_facts n) → a ≡ onward p.now.agreement → (HasKeys p.now.agreement → HasKeys (onward p.now.agreement))
    → HasRanges (record p.now { agreement = a })
ranges_after n p a onward seen r is kept =
    let now : HasRanges p.now = subst (λ (q : Planning). HasRanges q.now) seen r in
    ranges_agreed p.now p.now.hearing a now (subst HasKeys (sym is) (kept (keys_of p.now now)))
