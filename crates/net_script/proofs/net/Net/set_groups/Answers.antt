use Rattle.std.proofs.Common.{rules}
use Rattle.net_script.proofs.net.Net.set_groups.Goals as goal

pub returns-clause-groups : goal.returns-clause-groups
returns-clause-groups c = search rules
