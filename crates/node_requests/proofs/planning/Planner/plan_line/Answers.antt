use Rattle.std.proofs.Common.{◌≡◌, ◌++◌, ◌∷◌, [], sym, ap, subst, ◌∙◌}
use Rattle.std.specs.Option.{option_copied}
use Rattle.request_rules.specs.LineNotes.{note_request}
use Rattle.node_requests.specs.Changes.{CanMakeAll, all_changed, changed_by, kept}
use Rattle.node_requests.proofs.ChangeLaws.{can_push, pushed}
use Rattle.node_requests.proofs.LineLaws.{can, change_changes}
use Rattle.node_requests.proofs.ListLaws.{on_ok}
use Rattle.node_requests.proofs.planning.Planner.plan_line.Goals as goal

pub returns-in_default-clause-changes : goal.returns-in_default-clause-changes
returns-in_default-clause-changes c =
    let s = c.args.self.now in
    let r = all_changed (kept s.proxies.now) c.args.changes.now in
    ap (changed_by r) (sym c.in_default.is)
    ∙ change_changes s.asker (option_copied s.want) r c.args.line.now c.in_ok-change.field-0 c.in_ok-change.ensures

pub returns-clause-changes : goal.returns-clause-changes
returns-clause-changes c =
    let s = c.args.self.now in
    let r = all_changed (kept s.proxies.now) c.args.changes.now in
    on_ok c.push.result (c.push.new.self ≡ c.args.changes.now ++ c.in-Some.change ∷ [])
    (all_changed (kept s.proxies.now) c.push.new.self ≡ note_request s.asker (option_copied s.want) r c.args.line.now)
    (λ e. ap (all_changed (kept s.proxies.now)) e
    ∙ pushed (kept s.proxies.now) c.args.changes.now c.in-Some.change
    ∙ ap (changed_by r) (sym c.in-Some.is)
    ∙ change_changes s.asker (option_copied s.want) r c.args.line.now c.in_ok-change.field-0 c.in_ok-change.ensures)
    c.push.ensures.ok

pub returns-clause-can_still : goal.returns-clause-can_still
returns-clause-can_still c =
    let s = c.args.self.now in
    let r = all_changed (kept s.proxies.now) c.args.changes.now in
    on_ok c.push.result (c.push.new.self ≡ c.args.changes.now ++ c.in-Some.change ∷ [])
    (CanMakeAll (kept s.proxies.now) c.push.new.self)
    (λ e. subst (CanMakeAll (kept s.proxies.now)) (sym e)
    (can_push (kept s.proxies.now) c.args.changes.now c.in-Some.change c.requires.can
    (can s.asker (option_copied s.want) r c.args.line.now c.in-Some.change c.requires.count (sym c.in_ok-change.ensures ∙ c.in-Some.is))))
    c.push.ensures.ok
