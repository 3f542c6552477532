use Rattle.std.proofs.Common.{rules}
use Rattle.exchange.proofs.served.ServedTable.of.Goals as goal

pub returns : goal.returns
returns c = search rules
