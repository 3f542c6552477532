use Rattle.std.proofs.Common.{rules}
use Rattle.partition_state.proofs.copies.same_class.Goals as goal

pub returns-in-Part : goal.returns-in-Part
returns-in-Part c = search rules
