use Rattle.conflict_order.proofs.JoinLaws.{join_is_a_join}
use Rattle.conflict_order.proofs.laws.join_is_the_greater.Goals as goal

pub returns : goal.returns
returns c = join_is_a_join
