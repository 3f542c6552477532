use Rattle.std.proofs.Common.{ℕ, List, sym, ap, subst, ◌∙◌}
use Rattle.std.specs.List.{Contains}
use Rattle.node_rules.specs.Agreement.{others_among}
use Rattle.node_view.specs.Views.{IsOtherMember, Viewed, view_of}
use Rattle.node_view.proofs.HeardLaws.{contained}
use Rattle.node_view.proofs.view.View.hear_progress.Goals as goal

pub heard-requires : goal.heard-requires
heard-requires c =
    let i = c.self.inside in
    let a = c.self.invariant in
    let from = c.args.progressed.now.from in
    subst (λ (ns : List ℕ). Contains ns from) (sym (a.heard ∙ (a.others ∙ ap (others_among i.me) a.viewed)))
    (contained (view_of i) from (subst (λ (w : Viewed). IsOtherMember w from) (sym c.self.view_is) c.requires))
