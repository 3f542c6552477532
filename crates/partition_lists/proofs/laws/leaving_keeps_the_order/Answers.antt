use Rattle.partition_lists.proofs.LeavingLaws.{leaving_without_rack, leaving_before_next, leaving_alone, leaving_plain}
use Rattle.partition_lists.proofs.laws.leaving_keeps_the_order.Goals as goal

pub returns : goal.returns
returns c = record { without_rack = leaving_without_rack; before_next = leaving_before_next; alone = leaving_alone; plain = leaving_plain }
