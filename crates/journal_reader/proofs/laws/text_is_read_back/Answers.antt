use Rattle.journal_reader.proofs.LineLaws.{read_back}
use Rattle.journal_reader.proofs.laws.text_is_read_back.Goals as goal

pub returns : goal.returns
returns c = read_back
