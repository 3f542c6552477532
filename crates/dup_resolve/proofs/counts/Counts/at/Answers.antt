use Rattle.std.proofs.Common.{rules}
use Rattle.dup_resolve.proofs.counts.Counts.at.Goals as goal

pub returns-in-Some-clause-value : goal.returns-in-Some-clause-value
returns-in-Some-clause-value c = search rules
