use Rattle.std.proofs.Common.{rules}
use Rattle.conflict_order.proofs.version.Version.numbers_cmp.Goals as goal

pub returns-in-Time : goal.returns-in-Time
returns-in-Time c = search rules
