use Rattle.std.proofs.Common.{rules}
use Rattle.dup_resolve.proofs.slots.take_answer.Goals as goal

pub returns-then-is_empty-clause-txn : goal.returns-then-is_empty-clause-txn
returns-then-is_empty-clause-txn c = search rules

pub returns-else-is_empty-clause-txn : goal.returns-else-is_empty-clause-txn
returns-else-is_empty-clause-txn c = search rules
