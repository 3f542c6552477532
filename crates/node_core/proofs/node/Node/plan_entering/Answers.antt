use Rattle.std.proofs.Common.{◌≡◌, ◌++◌, ◌∷◌, Bool, List, append-nil, length, refl, sym, ap, subst, ◌∙◌, []}
use Rattle.cluster_types.specs.declared.member.Member.{Member}
use Rattle.node_rules.specs.Facts.{Facts}
use Rattle.node_rules.specs.Steps.{Planning}
use Rattle.node_view.specs.Views.{IsEntered, IsWithStore, Viewed}
use Rattle.node_core.specs.Nodes.{node_facts}
use Rattle.node_core.proofs.NodeLaws.{listed}
use Rattle.node_core.proofs.LeadLaws.{one_member, several_members, told_entering}
use Rattle.node_core.proofs.node.Node.plan_entering.Goals.{then-len-eq1+in_ok-push-2, else-len-eq1}
use Rattle.node_core.proofs.node.Node.plan_entering.Goals as goal
use Rattle.node_rules.specs.Tables.{only_if}
use Rattle.journal_lines.specs.declared.line.Line.TheVariants as line

pub returns-clause-lines : goal.returns-clause-lines
returns-clause-lines c =
    let f = c.args.self.now.now in
    let me = c.self.inside.me in
    let key = c.args.key in
    let ms = c.args.members.now in
    let own : me ≡ f.me = ap (λ (p : Planning). p.now.me) c.self.view_is in
    let ls = c.push.new.self in
    let ends = c.in_ok-close_transactions.ensures in
    let enters = c.in_ok-push.ensures.ok ∙ ap (λ (x : List Member). c.close_transactions.new.out.lines ++ line.Enter me key x ∷ []) c.in_ok-new.ensures in
    elim c.if-len-eq1.branch [
      | then-len-eq1+in_ok-push-2 w ↦
          w.out-is
          ∙ told_entering c.args.out.now c.close_transactions.new.out f key ms me ls w.push-then-len-eq1.new.self ends own enters
          (w.in_ok-push-2.ensures.ok ∙ ap (λ (b : Bool). ls ++ only_if (line.Exchanged me key) b) (sym (one_member (length ms) (sym c.len.ensures.value ∙ w.if-len-eq1.true))))
      | else-len-eq1 w ↦
          w.out-is
          ∙ told_entering c.args.out.now c.close_transactions.new.out f key ms me ls ls ends own enters
          (sym (append-nil ls) ∙ ap (λ (b : Bool). ls ++ only_if (line.Exchanged me key) b) (sym (several_members (length ms) (λ e. w.if-len-eq1.false (c.len.ensures.value ∙ e)))))
    ]

pub returns-clause-view : goal.returns-clause-view
returns-clause-view c =
    let f = c.args.self.now.now in
    let now : node_facts c.self.inside ≡ f = ap (λ (p : Planning). p.now) c.self.view_is in
    let stored : IsWithStore f c.self.inside.store = subst (λ (g : Facts). IsWithStore g c.self.inside.store) now (record { content = refl; stamps = refl; by = refl }) in
    let entered : IsEntered f c.args.key c.in_ok-lists.lists c.in_ok-view.view =
    c.in_ok-view.ensures f (ap (λ (g : Facts). g.me) (sym now)) (ap (λ (g : Facts). g.factor) (sym now)) stored in
    subst (λ (v : Viewed). IsEntered f c.args.key c.args.members.now v) (sym c.in_ok-new-2.ensures.ok)
    (subst (λ (ms : List Member). IsEntered f c.args.key ms c.in_ok-view.view) c.in_ok-lists.ensures entered)

pub invariant_of-self-in_err-new-2 : goal.invariant_of-self-in_err-new-2
invariant_of-self-in_err-new-2 c = listed c.self.inside c.lists.new.self c.self.invariant
