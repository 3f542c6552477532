use Rattle.std.proofs.Common.{rules}
use Rattle.clustering.proofs.agree.Agree.restart.Goals as goal

pub returns : goal.returns
returns c = search rules
