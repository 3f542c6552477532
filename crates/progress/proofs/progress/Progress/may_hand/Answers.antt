use Rattle.std.proofs.Common.{rules}
use Rattle.progress.proofs.progress.Progress.may_hand.Goals as goal

pub returns-then-all_done : goal.returns-then-all_done
returns-then-all_done c = search rules

pub returns-else-all_done : goal.returns-else-all_done
returns-else-all_done c = search rules
