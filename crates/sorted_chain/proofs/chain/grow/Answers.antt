use Rattle.std.proofs.Common.{rules}
use Rattle.sorted_chain.proofs.chain.grow.Goals as goal

pub returns-in-None-clause-unchanged : goal.returns-in-None-clause-unchanged
returns-in-None-clause-unchanged g c = search rules

pub returns-clause-enough : goal.returns-clause-enough
returns-clause-enough g c = search rules
