use Rattle.std.proofs.Common.{rules}
use Rattle.client_map.proofs.client_map.entry_of.Goals as goal

pub returns : goal.returns
returns c = search rules
