use Rattle.cluster_laws.proofs.All.{sound_at}
use Rattle.cluster_laws.proofs.Settled.{no_loss}
use Rattle.cluster_laws.proofs.laws.no_loss.Goals as goal

pub returns : goal.returns
returns c = λ G ground lines ok i. no_loss G _ (sound_at G ground lines i ok)
