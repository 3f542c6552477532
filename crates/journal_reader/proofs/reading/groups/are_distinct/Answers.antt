use Rattle.std.proofs.Common.{refl, sym}
use Rattle.journal_reader.proofs.PairLaws.{test_of_distinct, distinct_if}
use Rattle.journal_reader.proofs.reading.groups.are_distinct.Goals as goal

pub returns-in-Ok : goal.returns-in-Ok
returns-in-Ok c = sym (test_of_distinct _ (c.in-Ok.ensures.valid.0 refl))

pub returns-in-Err : goal.returns-in-Err
returns-in-Err c = sym (distinct_if _ c.in-Err.ensures.valid.1)
