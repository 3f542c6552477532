use Rattle.std.proofs.Common.{rules}
use Rattle.emigrate.proofs.permit.drop_copy.Goals as goal

pub returns-clause-store : goal.returns-clause-store
returns-clause-store c = search rules
