use Rattle.std.proofs.Common.{rules}
use Rattle.dup_resolve.proofs.slots.apply_in.Goals as goal

pub returns-in-Some : goal.returns-in-Some
returns-in-Some c = search rules
