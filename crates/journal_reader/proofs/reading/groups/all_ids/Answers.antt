use Rattle.std.proofs.Common.{sym, ◌∙◌, ◌++◌}
use Rattle.journal_reader.proofs.Loops.{concat_more}
use Rattle.journal_reader.proofs.reading.groups.all_ids.Goals as goal

pub loop-group-preserved : goal.loop-group-preserved
loop-group-preserved c =
    c.in_ok-extend_from_slice.ensures.items
    ∙ (λ i. c.loop-group.invariant i ++ c.as_slice.ensures.same i)
    ∙ sym (concat_more _ c.loop-group.group-index _ c.loop-group-test.true c.group-item.is)
