use Rattle.std.proofs.Common.{◌≡◌, sym, ap, subst, ◌∙◌}
use Rattle.std.specs.Option.{option_copied}
use Rattle.request_rules.specs.LineNotes.{noted_requests}
use Rattle.request_rules.specs.Requests.{NodeRequests}
use Rattle.node_requests.specs.Changes.{all_changed, kept}
use Rattle.node_requests.specs.Planned.{PlannedRequests, planning}
use Rattle.node_requests.proofs.node_requests.NodeRequests.plan.Goals as goal

pub returns-clause-planned : goal.returns-clause-planned
returns-clause-planned c =
    let a = c.args.asker in
    let w = option_copied c.args.want in
    let old = c.args.self.now.now in
    let changes = c.in_ok-changes.changes in
    let begun : c.give_up.new.self.now ≡ old = ap (λ (p : PlannedRequests). p.now) c.give_up.ensures in
    let same : kept c.self.inside.proxies ≡ old = ap (λ (p : PlannedRequests). p.now) c.self.view_is ∙ begun in
    let after : all_changed old changes ≡ noted_requests a w old c.args.effects.lines =
    subst (λ (r : NodeRequests). all_changed r changes ≡ noted_requests a w r c.args.effects.lines) same c.in_ok-changes.ensures.changes in
    c.in_ok-plan_changes.ensures.planned
    ∙ ap (λ (r : NodeRequests). planning r (all_changed r changes)) begun
    ∙ ap (planning old) (after
    ∙ sym (ap (noted_requests a w old) c.in_ok-lines.ensures
    ∙ c.what_is_given_up_changes_nothing_kept.ensures a w old c.self.inside.proxies.passed.waiting c.args.key c.args.me c.args.effects.lines))
