use Rattle.std.proofs.Common.{rules}
use Rattle.audit_state.proofs.stores.Stores.remove.Goals as goal

pub returns-clause-contents : goal.returns-clause-contents
returns-clause-contents c = search rules
