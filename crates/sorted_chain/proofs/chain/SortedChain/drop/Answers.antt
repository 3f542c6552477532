use Rattle.std.proofs.Common.{rules}
use Rattle.sorted_chain.proofs.chain.SortedChain.drop.Goals as goal

pub end-requires-2 : goal.end-requires-2
end-requires-2 g c = search rules
