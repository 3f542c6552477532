use Rattle.std.proofs.Common.{rules}
use Rattle.audit_state.proofs.stores.Stores.first_change.Goals as goal

pub returns-in-Some-clause-point : goal.returns-in-Some-clause-point
returns-in-Some-clause-point c = search rules
