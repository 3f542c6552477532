use Rattle.node_rules.proofs.Lone.{puts, gets}
use Rattle.node_rules.proofs.laws.lone_node_puts_and_gets.Goals as goal

pub returns : goal.returns
returns c = record { put = puts; get = gets }
