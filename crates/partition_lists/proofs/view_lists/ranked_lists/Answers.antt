use Rattle.std.proofs.Common.{◌≡◌, ◌∙◌}
use Rattle.partition_lists.proofs.ViewListLaws.{lists_push, no_lists}
use Rattle.partition_lists.proofs.view_lists.ranked_lists.Goals as goal
use Rattle.partition_lists.proofs.view_lists.ranked_lists.Goals.{in-Some+in_ok-extend_from_slice, in_default}

pub loop-number-init : goal.loop-number-init
loop-number-init c = c.in_ok-ids.ensures.items ∙ no_lists c.args.m.now

pub loop-number-preserved : goal.loop-number-preserved
loop-number-preserved c =
    elim c.match-new.branch [
      | in-Some+in_ok-extend_from_slice w ↦
          let more = lists_push c.args.m.now c.loop-number.number in
          let part = w.in_ok-extend_from_slice.ensures.items in
          let is : w.in-Some.p ≡ c.loop-number.number = w.in-Some.ensures.1 in
          cc (c.loop-number.invariant, is, w.list.ensures.value, w.as_slice.ensures.same, c.of-ranks.ensures)
      | in_default w ↦ absurd (w.in_default.ensures c.loop-number-test.true)
    ]
