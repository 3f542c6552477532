use Rattle.std.proofs.Common.{rules}
use Rattle.partition_lists.proofs.ranks.Rank.key.Goals as goal

pub returns : goal.returns
returns c = search rules
