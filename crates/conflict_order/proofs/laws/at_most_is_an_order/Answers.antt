use Rattle.conflict_order.proofs.OrderLaws.{is_an_order}
use Rattle.conflict_order.proofs.laws.at_most_is_an_order.Goals as goal

pub returns : goal.returns
returns c = is_an_order
