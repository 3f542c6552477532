use Rattle.std.proofs.Common.{rules}
use Rattle.world.proofs.ledger.Ledger.make_room.Goals as goal

pub returns-then-not-fits-clause-too_long : goal.returns-then-not-fits-clause-too_long
returns-then-not-fits-clause-too_long c = search rules

pub returns-clause-within : goal.returns-clause-within
returns-clause-within c = search rules
