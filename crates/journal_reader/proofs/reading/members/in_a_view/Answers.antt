use Rattle.std.proofs.Common.{refl}
use Rattle.journal_reader.proofs.PairLaws.{a_view, no_view}
use Rattle.journal_reader.proofs.reading.members.in_a_view.Goals as goal

pub returns-in-Ok : goal.returns-in-Ok
returns-in-Ok c = a_view _ _ c.in-Ok.ensures.ok (c.in-Ok.ensures.valid.0 refl)

pub returns-in-Err : goal.returns-in-Err
returns-in-Err c = no_view _ c.in-Err.ensures.valid.1
