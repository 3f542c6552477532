use Rattle.std.proofs.Common.{rules}
use Rattle.clustering.proofs.agree.Agree.on_propose.Goals as goal

pub returns-clause-agree : goal.returns-clause-agree
returns-clause-agree c = search rules
