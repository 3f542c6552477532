use Rattle.cluster_laws.proofs.All.{sound_at}
use Rattle.cluster_laws.proofs.Settled.{bounded}
use Rattle.cluster_laws.proofs.laws.holds_no_more_than_the_fold.Goals as goal

pub returns : goal.returns
returns c = λ G ground lines ok i. bounded G _ (sound_at G ground lines i ok)
