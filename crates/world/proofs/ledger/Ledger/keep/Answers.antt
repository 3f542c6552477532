use Rattle.std.proofs.Common.{rules}
use Rattle.world.proofs.ledger.Ledger.keep.Goals as goal

pub returns-clause-events : goal.returns-clause-events
returns-clause-events c = search rules
