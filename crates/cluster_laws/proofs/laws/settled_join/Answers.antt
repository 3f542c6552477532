use Rattle.cluster_laws.proofs.All.{sound_at}
use Rattle.cluster_laws.proofs.Settled.{settled_join}
use Rattle.cluster_laws.proofs.laws.settled_join.Goals as goal

pub returns : goal.returns
returns c = λ G ground lines ok i. settled_join G _ (sound_at G ground lines i ok)
