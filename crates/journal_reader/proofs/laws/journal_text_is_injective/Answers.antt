use Rattle.journal_reader.proofs.LineLaws.{journals_injective}
use Rattle.journal_reader.proofs.laws.journal_text_is_injective.Goals as goal

pub returns : goal.returns
returns c = journals_injective
