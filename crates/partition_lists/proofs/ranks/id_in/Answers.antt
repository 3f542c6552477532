use Rattle.std.proofs.Common.{rules}
use Rattle.partition_lists.proofs.ranks.id_in.Goals as goal

pub unreachable-requires : goal.unreachable-requires
unreachable-requires c = search rules

pub returns : goal.returns
returns c = search rules
