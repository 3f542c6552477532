use Rattle.std.proofs.Common.{rules}
use Rattle.progress.proofs.progress.Progress.all_done.Goals as goal

pub returns-then-get : goal.returns-then-get
returns-then-get c = search rules

pub returns-else-get : goal.returns-else-get
returns-else-get c = search rules
