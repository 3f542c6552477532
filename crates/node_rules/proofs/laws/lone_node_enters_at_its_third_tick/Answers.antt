use Rattle.node_rules.proofs.Lone.{first_tick, second_tick, third_tick}
use Rattle.node_rules.proofs.laws.lone_node_enters_at_its_third_tick.Goals as goal

pub returns : goal.returns
returns c = record { first = first_tick; second = second_tick; third = third_tick }
