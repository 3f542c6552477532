use Rattle.std.proofs.Common.{◌≡◌, ◌+◌, ◌++◌, Some, drop, slice_get, sym, ap, ap₂, ◌∙◌, arith}
use Rattle.std.specs.Option.{option_copied}
use Rattle.node_requests.specs.Leaving.{still_to_come}
use Rattle.node_requests.proofs.LeavingLaws.{goes_on}
use Rattle.node_requests.proofs.ListLaws.{rest_at, there}
use Rattle.node_requests.proofs.leaving.GivenUp.with_lines_of.Goals as goal
use Rattle.node_requests.proofs.leaving.GivenUp.with_lines_of.Goals.{in-Some+in_ok-left, in_default}

pub loop-i-preserved : goal.loop-i-preserved
loop-i-preserved c =
    let g = c.args.self.now in
    let ls = c.args.lines.now in
    elim c.match-get.branch [
      | in-Some+in_ok-left w ↦
          (let at : slice_get ls c.loop-i.i ≡ Some w.in-Some.line.now = sym c.get.ensures ∙ ap option_copied w.in-Some.is in
          ap₂ (λ told b. told ++ still_to_come g b (drop (c.loop-i.i + 1) ls)) (w.told-is ∙ w.in_ok-left.ensures.told) (w.left-is ∙ w.in_ok-left.ensures.left)
          ∙ goes_on g c.loop-i.told c.loop-i.left w.in-Some.line.now (drop (c.loop-i.i + 1) ls)
          ∙ ap (λ ms. c.loop-i.told ++ still_to_come g c.loop-i.left ms) (sym (rest_at ls c.loop-i.i w.in-Some.line.now at))
          ∙ c.loop-i.invariant)
      | in_default w ↦ absurd (there ls c.loop-i.i (omega (arith, c.loop-i-test.true, c.len-i-end.ensures)) (sym c.get.ensures ∙ ap option_copied w.in_default.is))
    ]
