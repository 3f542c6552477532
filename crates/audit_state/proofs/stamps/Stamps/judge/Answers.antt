use Rattle.std.proofs.Common.{rules}
use Rattle.audit_state.proofs.stamps.Stamps.judge.Goals as goal

pub returns-in_ok-put-clause-wholes : goal.returns-in_ok-put-clause-wholes
returns-in_ok-put-clause-wholes c = search rules
