use Rattle.cluster_laws.proofs.All.{sound_at}
use Rattle.cluster_laws.proofs.Settled.{equal_classes}
use Rattle.cluster_laws.proofs.laws.equal_classes.Goals as goal

pub returns : goal.returns
returns c = λ G ground lines ok i. equal_classes G _ (sound_at G ground lines i ok)
