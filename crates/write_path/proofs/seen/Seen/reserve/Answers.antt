use Rattle.std.proofs.Common.{rules}
use Rattle.write_path.proofs.seen.Seen.reserve.Goals as goal

pub returns-clause-enough : goal.returns-clause-enough
returns-clause-enough c = search rules
