use Rattle.std.proofs.Common.{◌∙◌}
use Rattle.progress.proofs.RowLaws.{clear_is}
use Rattle.progress.proofs.row.HeapRow.new.Goals as goal

pub returns : goal.returns
returns c = c.in_ok-row.ensures.ok ∙ clear_is c.new.result c.new.ensures.size c.new.ensures.clear
