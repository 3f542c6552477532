use Rattle.std.proofs.Common.{rules}
use Rattle.immigrate.proofs.merging.on_batch.Goals as goal

pub returns-clause-versions : goal.returns-clause-versions
returns-clause-versions c = search rules
