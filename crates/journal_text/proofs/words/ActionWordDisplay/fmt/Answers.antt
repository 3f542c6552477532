use Rattle.std.proofs.Common.{rules}
use Rattle.journal_text.proofs.words.ActionWordDisplay.fmt.Goals as goal

pub returns-in-Del-clause-writes : goal.returns-in-Del-clause-writes
returns-in-Del-clause-writes g c = search rules
