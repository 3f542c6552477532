use Rattle.std.proofs.Common.{rules}
use Rattle.progress.proofs.progress.Progress.knows_settled.Goals as goal

pub returns-then-get : goal.returns-then-get
returns-then-get c = search rules
