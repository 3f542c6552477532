use Rattle.journal_readings.proofs.CopyLaws.{no_record-empty, row-empty}
use Rattle.journal_readings.proofs.laws.copies_are_empty_where_nothing_is_held.Goals as goal

pub returns : goal.returns
returns c = record { copies = no_record-empty; rows = row-empty }
