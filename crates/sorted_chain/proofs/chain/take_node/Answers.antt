use Rattle.std.proofs.Common.{rules}
use Rattle.sorted_chain.proofs.chain.take_node.Goals as goal

pub returns-in-Some-clause-none : goal.returns-in-Some-clause-none
returns-in-Some-clause-none g c = search rules
