use Rattle.std.proofs.Common.{rules}
use Rattle.net_script.proofs.net.Net.reserve.Goals as goal

pub returns-clause-enough : goal.returns-clause-enough
returns-clause-enough c = search rules
