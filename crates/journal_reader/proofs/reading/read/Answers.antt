use Rattle.journal_reader.proofs.ReadLaws.{read_found, read_only}
use Rattle.journal_reader.proofs.reading.read.Goals as goal

pub returns-clause-found : goal.returns-clause-found
returns-clause-found c = read_found _ _ c.line_of_text.ensures

pub returns-clause-only : goal.returns-clause-only
returns-clause-only c = read_only _ _ c.line_of_text.ensures
