use Rattle.std.proofs.Common.{rules, arith}
use Rattle.std.proofs.lemmas.Grind.{common_steps}
use Rattle.byte_ends.proofs.memory.MemSourceSource.pull.Goals as goal

pub returns-then-self-len-clause-failed : goal.returns-then-self-len-clause-failed
returns-then-self-len-clause-failed c = search rules

pub returns-then-self-len-clause-ended : goal.returns-then-self-len-clause-ended
returns-then-self-len-clause-ended c = grind (arith, common_steps)

pub returns-then-self-len-clause-after : goal.returns-then-self-len-clause-after
returns-then-self-len-clause-after c = search rules

pub returns-clause-got : goal.returns-clause-got
returns-clause-got c = grind (arith, common_steps)

pub returns-clause-after : goal.returns-clause-after
returns-clause-after c = grind (arith, common_steps)

pub returns-clause-piece : goal.returns-clause-piece
returns-clause-piece c = search rules
