use Rattle.std.proofs.Common.{rules}
use Rattle.conflict_order.proofs.version.Version.copy.Goals as goal

pub returns : goal.returns
returns c = search rules
