use Rattle.std.proofs.Common.{rules}
use Rattle.clustering.proofs.stage.Keys.next_key.Goals as goal

pub returns-clause-round : goal.returns-clause-round
returns-clause-round c = search rules
