use Rattle.std.proofs.Common.{◌≡◌, Bool, true, ap, subst, sym, ◌∙◌}
use Rattle.node_rules.specs.Facts.{Facts}
use Rattle.node_rules.specs.Steps.{Planning}
use Rattle.node_view.specs.Views.{IsViewOf}
use Rattle.node_core.specs.Nodes.{node_facts}
use Rattle.node_steps.specs.Grounds.{grounded}
use Rattle.node_steps.specs.Ranges.{HasRanges}
use Rattle.node_core.proofs.node.Node.ground.Goals as goal

pub invariant_of-result : goal.invariant_of-result
invariant_of-result c =
    let ground : Facts → Facts = λ (f : Facts). grounded f c.args.hearing.now c.args.agree.now c.args.view in
    let own : Facts = node_facts c.self.inside in
    let runs : own.up ≡ true = ap (λ (p : Planning). p.now.up) c.self.view_is ∙ c.requires.up in
    let same : ground c.args.self.now.now ≡ record (ground own) { up = true } =
    ap (λ (p : Planning). ground p.now) (sym c.self.view_is) ∙ ap (λ (up : Bool). record (ground own) { up = up }) runs in
    record {
      hearing = c.requires.hearing_of ∙ ap (λ (p : Planning). p.now.me) (sym c.self.view_is);
      agree = c.requires.agree_of ∙ ap (λ (p : Planning). p.now.me) (sym c.self.view_is);
      view = λ v e. subst (λ (g : Facts). IsViewOf g v.now) same (c.requires.view_of v e);
      in_one = c.requires.in_one;
      ranges = subst HasRanges same c.requires.ranges;
    }
