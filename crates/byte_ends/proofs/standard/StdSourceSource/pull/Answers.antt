use Rattle.std.proofs.Common.{rules}
use Rattle.byte_ends.proofs.standard.StdSourceSource.pull.Goals as goal

pub returns-in-Ok-eq0-clause-counts : goal.returns-in-Ok-eq0-clause-counts
returns-in-Ok-eq0-clause-counts g c = search rules

pub returns-in-Ok-eq0-clause-reader : goal.returns-in-Ok-eq0-clause-reader
returns-in-Ok-eq0-clause-reader g c = search rules
