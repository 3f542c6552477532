use Rattle.std.proofs.Common.{rules}
use Rattle.journal_text.proofs.line_list.LineList.move_to.Goals as goal

pub invariant_of-self : goal.invariant_of-self
invariant_of-self c = search rules

pub returns-clause-lines : goal.returns-clause-lines
returns-clause-lines c = search rules

pub returns-clause-none_left : goal.returns-clause-none_left
returns-clause-none_left c = search rules
