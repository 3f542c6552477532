use Rattle.std.proofs.Common.{rules}
use Rattle.cluster_types.proofs.members.role_in.Goals as goal

pub returns-clause-listed : goal.returns-clause-listed
returns-clause-listed c = search rules
