use Rattle.std.proofs.Common.{refl}
use Rattle.journal_reader.proofs.PairLaws.{a_list, no_list}
use Rattle.journal_reader.proofs.reading.members.in_a_list.Goals as goal

pub returns-in-Ok : goal.returns-in-Ok
returns-in-Ok c = a_list _ _ c.in-Ok.ensures.ok (c.in-Ok.ensures.valid.0 refl)

pub returns-in-Err : goal.returns-in-Err
returns-in-Err c = no_list _ c.in-Err.ensures.valid.1
