use Rattle.std.proofs.Common.{rules}
use Rattle.exchange.proofs.exchanged.Exchanged.map.Goals as goal

pub returns : goal.returns
returns c = search rules
