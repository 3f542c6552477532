use Rattle.std.proofs.Common.{rules, arith}
use Rattle.std.proofs.lemmas.Grind.{common_steps}
use Rattle.journal_text.proofs.line_list.LineList.take_first.Goals as goal

pub overflow_sub-self : goal.overflow_sub-self
overflow_sub-self c = grind (arith, common_steps)

pub invariant_of-self : goal.invariant_of-self
invariant_of-self c = grind (arith, common_steps)

pub returns-clause-first : goal.returns-clause-first
returns-clause-first c = search rules

pub returns-clause-rest : goal.returns-clause-rest
returns-clause-rest c = search rules
