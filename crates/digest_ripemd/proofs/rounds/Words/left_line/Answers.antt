use Rattle.std.proofs.Common.{rules}
use Rattle.digest_ripemd.proofs.rounds.Words.left_line.Goals as goal

pub returns : goal.returns
returns c = search rules
