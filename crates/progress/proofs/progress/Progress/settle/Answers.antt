use Rattle.std.proofs.Common.{rules}
use Rattle.progress.proofs.progress.Progress.settle.Goals as goal

pub returns : goal.returns
returns c = search rules
