use Rattle.std.proofs.Common.{rules}
use Rattle.audit_state.proofs.records.count.Goals as goal

pub returns-in-true-false : goal.returns-in-true-false
returns-in-true-false c = search rules
