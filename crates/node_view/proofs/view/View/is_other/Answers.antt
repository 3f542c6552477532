use Rattle.std.proofs.Common.{◌==◌, ℕ, List, sym, ap, ◌∙◌}
use Rattle.std.specs.List.{list_any}
use Rattle.cluster_types.specs.declared.member.Member.{Member}
use Rattle.node_rules.specs.Exchange.{is_member, members_of}
use Rattle.node_view.specs.Views.{Viewed}
use Rattle.node_view.proofs.StageLaws.{is_other, other_from}
use Rattle.node_view.proofs.view.View.is_other.Goals as goal

pub returns : goal.returns
returns c =
    let v = c.self.inside in
    let n = c.args.n in
    let told = c.contains.ensures.value in
    let same = ap (λ (ns : List ℕ). list_any (λ m. m == n) ns) c.self.invariant.others in
    let seen = ap (λ (ms : List Member). is_member ms n) c.self.invariant.viewed ∙ ap (λ (w : Viewed). is_member (members_of w.exchange.view) n) c.self.view_is in
    let own = ap (λ (w : Viewed). w.me) c.self.view_is in (
      λ h. let both = other_from v.me n v.members (sym same ∙ sym told ∙ h) in record { member = sym seen ∙ both.0; other = λ i. both.1 (i ∙ sym own) },
      λ o. told ∙ same ∙ is_other v.me n v.members (seen ∙ o.member) (λ i. o.other (i ∙ own)),
    )
