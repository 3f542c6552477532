use Rattle.std.proofs.Common.{rules}
use Rattle.cluster_types.proofs.row.is_set.Goals as goal

pub returns : goal.returns
returns c = search rules
