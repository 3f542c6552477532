use Rattle.std.proofs.Common.{arith}
use Rattle.std.proofs.lemmas.Grind.{common_steps}
use Rattle.partition_state.proofs.copies.class_first.Goals as goal

pub returns-then-same_class : goal.returns-then-same_class
returns-then-same_class c = grind (arith, common_steps)
