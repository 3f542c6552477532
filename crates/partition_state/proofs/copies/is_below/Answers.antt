use Rattle.std.proofs.Common.{rules}
use Rattle.partition_state.proofs.copies.is_below.Goals as goal

pub returns : goal.returns
returns c = search rules
