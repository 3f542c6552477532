use Rattle.std.proofs.Common.{rules}
use Rattle.partition_lists.proofs.ranks.rank_in.Goals as goal

pub returns : goal.returns
returns c = search rules
