use Rattle.std.proofs.Common.{◌++◌, sym, ap, ◌∙◌}
use Rattle.std.specs.Option.{option_copied}
use Rattle.std.proofs.lemmas.List.{append-nil}
use Rattle.node_steps.specs.Spelled.{spelled_sends}
use Rattle.node_requests.specs.Changes.{all_changed, kept}
use Rattle.node_requests.proofs.LineLaws.{nothing_noted, nothing_owed}
use Rattle.node_requests.proofs.planning.Planner.plan.Goals as goal

pub returns-then-changes_nothing-clause-changes : goal.returns-then-changes_nothing-clause-changes
returns-then-changes_nothing-clause-changes c =
    let s = c.args.self.now in
    ap (all_changed (kept s.proxies.now)) c.new.ensures
    ∙ sym (nothing_noted s.asker (option_copied s.want) (kept s.proxies.now) c.args.lines.now (c.changes_nothing.ensures c.if-changes_nothing.true))

pub returns-then-changes_nothing-clause-sends : goal.returns-then-changes_nothing-clause-sends
returns-then-changes_nothing-clause-sends c =
    let s = c.args.self.now in
    sym (append-nil c.args.sends.now)
    ∙ ap (λ ms. c.args.sends.now ++ spelled_sends ms) (sym (nothing_owed s.key s.asker (kept s.proxies.now) c.args.lines.now (c.changes_nothing.ensures c.if-changes_nothing.true)))
