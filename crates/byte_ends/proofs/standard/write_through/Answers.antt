use Rattle.std.proofs.Common.{rules}
use Rattle.byte_ends.proofs.standard.write_through.Goals as goal

pub returns-clause-fits : goal.returns-clause-fits
returns-clause-fits g c = search rules
