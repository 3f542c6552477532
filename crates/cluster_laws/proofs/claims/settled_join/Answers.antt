use Rattle.cluster_laws.proofs.ReadingClaims.{settled_join}
use Rattle.cluster_laws.proofs.claims.settled_join.Goals as goal

pub returns : goal.returns
returns c = settled_join
