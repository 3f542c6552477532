use Rattle.std.proofs.Common.{rules}
use Rattle.partition_state.proofs.copies.acting.Goals as goal

pub returns-in-None : goal.returns-in-None
returns-in-None c = search rules
