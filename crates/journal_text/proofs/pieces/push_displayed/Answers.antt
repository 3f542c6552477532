use Rattle.std.proofs.Common.{rules}
use Rattle.journal_text.proofs.pieces.push_displayed.Goals as goal

pub returns-clause-text : goal.returns-clause-text
returns-clause-text c = search rules
