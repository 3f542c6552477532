use Rattle.std.proofs.Common.{arith}
use Rattle.std.proofs.lemmas.Grind.{common_steps}
use Rattle.byte_ends.proofs.sure.SureSourceSource.pull.Goals as goal

pub returns-then-self-len-clause-ended : goal.returns-then-self-len-clause-ended
returns-then-self-len-clause-ended c = grind (arith, common_steps)
