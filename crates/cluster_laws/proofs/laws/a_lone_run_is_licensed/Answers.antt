use Rattle.cluster_laws.proofs.LoneRun.{kept_licensed}
use Rattle.cluster_laws.proofs.laws.a_lone_run_is_licensed.Goals as goal

pub returns : goal.returns
returns c = kept_licensed
