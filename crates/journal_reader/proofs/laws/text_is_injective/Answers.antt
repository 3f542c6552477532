use Rattle.journal_reader.proofs.LineLaws.{injective}
use Rattle.journal_reader.proofs.laws.text_is_injective.Goals as goal

pub returns : goal.returns
returns c = injective
