use Rattle.run_laws.proofs.CalmLines.{calm_ends}
use Rattle.run_laws.proofs.laws.calm_ends_at_rest.Goals as goal

pub returns : goal.returns
returns c = calm_ends
