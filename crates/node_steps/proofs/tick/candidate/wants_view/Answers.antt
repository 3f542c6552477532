use Rattle.std.proofs.Common.{◌≡◌, ◌||◌, ℕ, Bool, not, ap, ap₂, sym, subst, ◌∙◌}
use Rattle.cluster_types.specs.declared.cluster_key.ClusterKey.{ClusterKey}
use Rattle.cluster_types.specs.declared.member.Member.{Member}
use Rattle.cluster_types.specs.MembersEqual.{same_members}
use Rattle.std.proofs.Common.{List}
use Rattle.std.specs.Prelude.{IsSome}
use Rattle.node_rules.specs.Exchange.{Exchange, exchange_key, members_of}
use Rattle.node_rules.specs.Facts.{Facts, view_key}
use Rattle.node_rules.specs.Hearing.{all_show}
use Rattle.node_rules.specs.Notes.{neighbours}
use Rattle.node_rules.specs.Tick.{differs_from}
use Rattle.node_view.specs.Views.{IsViewOf}
use Rattle.node_steps.proofs.ViewLaws.{differs_by, exchange_is}
use Rattle.node_steps.proofs.tick.candidate.wants_view.Goals as goal

pub returns-then-ne : goal.returns-then-ne
returns-then-ne c =
    let f : Facts = c.args.f.now in
    let own : IsViewOf f c.in-Some.view.now = subst (λ (g : Facts). IsViewOf g c.in-Some.view.now) c.f.view_is (c.f.invariant.view c.in-Some.view c.in-Some.is) in
    let same = exchange_is f c.in-Some.view.now own.viewed in
    let some : IsSome f.exchange.view = subst (λ (x : Exchange). IsSome x.view) same (c.f.invariant.in_one c.in-Some.view c.in-Some.is) in
    let members = c.members.ensures ∙ ap (λ (x : Exchange). members_of x.view) same in
    let differs : c.ne.result ≡ differs_from (neighbours f) f.exchange.view =
    c.ne.ensures ∙ ap₂ (λ (a b : List Member). not (same_members a b)) c.requires members ∙ sym (differs_by (neighbours f) f.exchange.view some) in
    c.if-ne.true ∙ sym (ap (λ (b : Bool). b || not (all_show f.me f.hearing.heard (view_key f))) (sym differs ∙ c.if-ne.true))

pub returns-else-ne : goal.returns-else-ne
returns-else-ne c =
    let f : Facts = c.args.f.now in
    let own : IsViewOf f c.in-Some.view.now = subst (λ (g : Facts). IsViewOf g c.in-Some.view.now) c.f.view_is (c.f.invariant.view c.in-Some.view c.in-Some.is) in
    let same = exchange_is f c.in-Some.view.now own.viewed in
    let some : IsSome f.exchange.view = subst (λ (x : Exchange). IsSome x.view) same (c.f.invariant.in_one c.in-Some.view c.in-Some.is) in
    let members = c.members.ensures ∙ ap (λ (x : Exchange). members_of x.view) same in
    let differs : c.ne.result ≡ differs_from (neighbours f) f.exchange.view =
    c.ne.ensures ∙ ap₂ (λ (a b : List Member). not (same_members a b)) c.requires members ∙ sym (differs_by (neighbours f) f.exchange.view some) in
    let me : c.f.inside.hearing.now.me ≡ f.me = c.f.invariant.hearing ∙ ap (λ (g : Facts). g.me) c.f.view_is in
    let heard = ap (λ (g : Facts). g.hearing.heard) c.f.view_is in
    let key = c.key.ensures ∙ ap (λ (x : Exchange). exchange_key x.view) same in
    let shown : c.all_show.result ≡ all_show f.me f.hearing.heard (view_key f) =
    c.all_show.ensures ∙ ap₂ (λ (n : ℕ) (k : ClusterKey). all_show n c.f.inside.hearing.now.hearing.heard k) me key ∙ ap (λ (g : Facts). all_show f.me g.hearing.heard (view_key f)) c.f.view_is in
    ap not shown ∙ sym (ap (λ (b : Bool). b || not (all_show f.me f.hearing.heard (view_key f))) (sym differs ∙ c.if-ne.false))
