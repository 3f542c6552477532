use Rattle.journal_reader.proofs.Parts.{are_left}
use Rattle.journal_reader.proofs.reading.parts.Parts.are_ended.Goals as goal

pub returns : goal.returns
returns c = are_left _ _ _ _ c.is_none.ensures c.self.view_is
