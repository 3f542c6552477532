use Rattle.std.proofs.Common.{rules}
use Rattle.cluster_top.proofs.words.WordsFaultFromError.from.Goals as goal

pub returns-in-OutOfMemory : goal.returns-in-OutOfMemory
returns-in-OutOfMemory c = search rules
