use Rattle.run_laws.proofs.BoundRuns.{binds_what_runs}
use Rattle.run_laws.proofs.laws.what_is_bound_runs.Goals as goal

pub returns : goal.returns
returns c = binds_what_runs
