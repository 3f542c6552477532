use Rattle.std.proofs.Common.{rules}
use Rattle.journal_reader.proofs.reading.numbers.factor_of.Goals as goal

pub returns : goal.returns
returns c = search rules
