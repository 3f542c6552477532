use Rattle.conflict_order.proofs.NextLaws.{next_is_newer}
use Rattle.conflict_order.proofs.laws.next_is_newer.Goals as goal

pub returns : goal.returns
returns c = next_is_newer
