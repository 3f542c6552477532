use Rattle.std.proofs.Common.{rules}
use Rattle.audit_state.proofs.views.Partition.take_doubts.Goals as goal

pub returns-clause-doubts : goal.returns-clause-doubts
returns-clause-doubts c = search rules

pub returns-clause-stand : goal.returns-clause-stand
returns-clause-stand c = search rules
