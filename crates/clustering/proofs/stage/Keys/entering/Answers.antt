use Rattle.std.proofs.Common.{rules}
use Rattle.clustering.proofs.stage.Keys.entering.Goals as goal

pub returns : goal.returns
returns c = search rules
