use Rattle.request_rules.proofs.DressingLaws.{idle}
use Rattle.request_rules.proofs.laws.an_idle_node_does_nothing_more.Goals as goal

pub returns : goal.returns
returns c = idle
