use Rattle.cluster_laws.proofs.ReadingClaims.{read_join}
use Rattle.cluster_laws.proofs.claims.read_join.Goals as goal

pub returns : goal.returns
returns c = read_join
