use Rattle.std.proofs.Common.{rules}
use Rattle.dup_resolve.proofs.slots.take_acknowledgement.Goals as goal

pub returns-then-is_empty-clause-step : goal.returns-then-is_empty-clause-step
returns-then-is_empty-clause-step c = search rules
