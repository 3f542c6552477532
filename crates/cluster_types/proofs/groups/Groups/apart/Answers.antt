use Rattle.std.proofs.Common.{rules}
use Rattle.cluster_types.proofs.groups.Groups.apart.Goals as goal

pub returns-in-Some-Some : goal.returns-in-Some-Some
returns-in-Some-Some c = search rules
