use Rattle.journal_reader.proofs.LineLaws.{written_so}
use Rattle.journal_reader.proofs.laws.what_is_read_is_written_so.Goals as goal

pub returns : goal.returns
returns c = written_so
