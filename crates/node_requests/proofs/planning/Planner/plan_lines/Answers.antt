use Rattle.std.proofs.Common.{◌≡◌, Some, slice_get, sym, ap, subst, ◌∙◌, arith}
use Rattle.std.specs.Option.{option_copied}
use Rattle.request_rules.specs.LineNotes.{note_request}
use Rattle.node_requests.specs.Changes.{CanMakeAll, all_changed, kept}
use Rattle.node_requests.proofs.ListLaws.{there}
use Rattle.node_requests.proofs.StepLaws.{count_here, count_on, noted_on, sends_on, spelled_here, spelled_on}
use Rattle.node_requests.proofs.planning.Planner.plan_lines.Goals as goal
use Rattle.node_requests.proofs.planning.Planner.plan_lines.Goals.{in-Some+in_ok-plan_line, in_default}

pub plan_line-requires-clause-count : goal.plan_line-requires-clause-count
plan_line-requires-clause-count c =
    let s = c.args.self.now in
    let at : slice_get c.args.lines.now c.loop-i.i ≡ Some c.in-Some.line.now = sym c.get.ensures ∙ ap option_copied c.in-Some.is in
    count_here s.key s.asker (option_copied s.want) c.args.lines.now c.loop-i.i c.in-Some.line.now at (all_changed (kept s.proxies.now) c.loop-i.changes) c.loop-i.invariant.count

pub plan_line-requires-clause-spelled : goal.plan_line-requires-clause-spelled
plan_line-requires-clause-spelled c =
    let s = c.args.self.now in
    let at : slice_get c.args.lines.now c.loop-i.i ≡ Some c.in-Some.line.now = sym c.get.ensures ∙ ap option_copied c.in-Some.is in
    spelled_here s.key s.asker (option_copied s.want) c.args.lines.now c.loop-i.i c.in-Some.line.now at (all_changed (kept s.proxies.now) c.loop-i.changes) c.loop-i.invariant.spelled

pub loop-i-preserved : goal.loop-i-preserved
loop-i-preserved c =
    let s = c.args.self.now in
    let w = option_copied s.want in
    let ls = c.args.lines.now in
    let r = all_changed (kept s.proxies.now) c.loop-i.changes in
    let q = all_changed (kept s.proxies.now) c.match-get.changes in
    let inv = c.loop-i.invariant in
    elim c.match-get.branch [
      | in-Some+in_ok-plan_line b ↦
          (let l = b.in-Some.line.now in
          let at : slice_get ls c.loop-i.i ≡ Some l = sym c.get.ensures ∙ ap option_copied b.in-Some.is in
          let e : q ≡ note_request s.asker w r l = ap (all_changed (kept s.proxies.now)) b.changes-is ∙ b.in_ok-plan_line.ensures.changes in
          record {
            count = count_on s.key s.asker w ls c.loop-i.i l at r q e inv.count;
            spelled = spelled_on s.key s.asker w ls c.loop-i.i l at r q e inv.spelled;
            can = subst (CanMakeAll (kept s.proxies.now)) (sym b.changes-is) b.in_ok-plan_line.ensures.can_still;
            changes = noted_on s.key s.asker w ls c.loop-i.i l at r q e ∙ inv.changes;
            sends = sends_on s.key s.asker w ls c.loop-i.i l at r q c.loop-i.sends c.match-get.sends e (b.sends-is ∙ b.in_ok-plan_line.ensures.sends) ∙ inv.sends;
          })
      | in_default b ↦ absurd (there ls c.loop-i.i (omega (arith, c.loop-i-test.true, c.len-i-end.ensures)) (sym c.get.ensures ∙ ap option_copied b.in_default.is))
    ]
