use Rattle.std.proofs.Common.{rules}
use Rattle.audit_state.proofs.stores.Stores.content_at.Goals as goal

pub returns-in-Some : goal.returns-in-Some
returns-in-Some c = search rules
