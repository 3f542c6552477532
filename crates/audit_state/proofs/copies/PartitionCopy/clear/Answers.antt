use Rattle.std.proofs.Common.{rules}
use Rattle.audit_state.proofs.copies.PartitionCopy.clear.Goals as goal

pub returns-clause-holding : goal.returns-clause-holding
returns-clause-holding c = search rules
