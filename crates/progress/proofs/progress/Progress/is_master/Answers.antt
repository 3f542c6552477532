use Rattle.std.proofs.Common.{rules}
use Rattle.progress.proofs.progress.Progress.is_master.Goals as goal

pub returns-in-len1-up : goal.returns-in-len1-up
returns-in-len1-up c = search rules
