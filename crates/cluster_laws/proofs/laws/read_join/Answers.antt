use Rattle.cluster_laws.proofs.Resolved.{read_join}
use Rattle.cluster_laws.proofs.laws.read_join.Goals as goal

pub returns : goal.returns
returns c = read_join
