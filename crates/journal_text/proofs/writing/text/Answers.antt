use Rattle.std.proofs.Common.{rules}
use Rattle.journal_text.proofs.writing.text.Goals as goal

pub returns : goal.returns
returns c = search rules
