use Rattle.std.proofs.Common.{rules}
use Rattle.partition_lists.proofs.view_lists.Lists.copy.Goals as goal

pub invariant_of-result : goal.invariant_of-result
invariant_of-result c = search rules
