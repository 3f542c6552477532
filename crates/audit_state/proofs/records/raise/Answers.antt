use Rattle.std.proofs.Common.{rules}
use Rattle.audit_state.proofs.records.raise.Goals as goal

pub returns-then-at_most-clause-newest : goal.returns-then-at_most-clause-newest
returns-then-at_most-clause-newest c = search rules

pub returns-then-at_most-clause-holders : goal.returns-then-at_most-clause-holders
returns-then-at_most-clause-holders c = search rules

pub returns-else-at_most-clause-newest : goal.returns-else-at_most-clause-newest
returns-else-at_most-clause-newest c = search rules

pub returns-else-at_most-clause-holders : goal.returns-else-at_most-clause-holders
returns-else-at_most-clause-holders c = search rules
