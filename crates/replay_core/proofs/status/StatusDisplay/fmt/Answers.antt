use Rattle.std.proofs.Common.{rules}
use Rattle.replay_core.proofs.status.StatusDisplay.fmt.Goals as goal

pub returns-in-ReadFault-clause-writes : goal.returns-in-ReadFault-clause-writes
returns-in-ReadFault-clause-writes g c = search rules
