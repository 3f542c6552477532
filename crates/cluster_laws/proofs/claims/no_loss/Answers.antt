use Rattle.cluster_laws.proofs.ReadingClaims.{no_loss}
use Rattle.cluster_laws.proofs.claims.no_loss.Goals as goal

pub returns : goal.returns
returns c = no_loss
