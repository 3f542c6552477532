use Rattle.std.proofs.Common.{rules}
use Rattle.journal_text.proofs.line_list.LineList.push.Goals as goal

pub returns-clause-ok : goal.returns-clause-ok
returns-clause-ok c = search rules
