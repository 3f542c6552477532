use Rattle.std.proofs.Common.{rules}
use Rattle.cluster_top.proofs.generating.Draws.draw.Goals as goal

pub returns-clause-drawn : goal.returns-clause-drawn
returns-clause-drawn c = search rules
