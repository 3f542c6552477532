use Rattle.std.proofs.Common.{rules}
use Rattle.partition_lists.proofs.view_lists.Lists.master.Goals as goal

pub returns : goal.returns
returns c = search rules
