use Rattle.std.proofs.Common.{rules}
use Rattle.cluster_types.proofs.partition.partition_of.Goals as goal

pub returns : goal.returns
returns c = search rules
