use Rattle.std.proofs.Common.{◌∷◌, ◌++◌, [], ap, ◌∙◌, arith}
use Rattle.immigrate.proofs.BatchLaws.{digest_more, within_is_some}
use Rattle.immigrate.proofs.merging.digest_list.Goals.{in-Some+in_ok-push, in_default}
use Rattle.immigrate.proofs.merging.digest_list.Goals as goal

pub loop-i-preserved : goal.loop-i-preserved
loop-i-preserved c = elim c.match-get.branch [
  | in-Some+in_ok-push w ↦
      w.digests-is
      ∙ w.in_ok-push.ensures.ok
      ∙ ap (λ ds. ds ++ w.in-Some.field-0.now.0 ∷ []) c.loop-i.invariant
      ∙ digest_more c.args.records.now c.loop-i.i w.in-Some.field-0.now w.in-Some.ensures
  | in_default w ↦
      absurd (within_is_some c.args.records.now c.loop-i.i (rw w.in_default.is at c.get.ensures) (omega (arith, c.len-i-end.ensures, c.loop-i-test.true)))
]
