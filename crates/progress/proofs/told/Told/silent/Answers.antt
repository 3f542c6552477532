use Rattle.std.proofs.Common.{rules}
use Rattle.progress.proofs.told.Told.silent.Goals as goal

pub returns : goal.returns
returns c = search rules
