use Rattle.std.proofs.Common.{rules}
use Rattle.journal_text.proofs.line_copy.copy_line.Goals as goal

pub returns-in-Quiesce : goal.returns-in-Quiesce
returns-in-Quiesce c = search rules
