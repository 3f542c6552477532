use Rattle.std.proofs.Common.{rules}
use Rattle.cluster_types.proofs.cluster_key.ClusterKey.next.Goals as goal

pub returns : goal.returns
returns c = search rules
