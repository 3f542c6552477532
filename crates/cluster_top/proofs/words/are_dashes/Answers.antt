use Rattle.std.proofs.Common.{rules}
use Rattle.cluster_top.proofs.words.are_dashes.Goals as goal

pub returns : goal.returns
returns c = search rules
