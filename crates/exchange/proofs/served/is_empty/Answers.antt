use Rattle.std.proofs.Common.{rules}
use Rattle.exchange.proofs.served.is_empty.Goals as goal

pub returns-in-Part : goal.returns-in-Part
returns-in-Part c = search rules
