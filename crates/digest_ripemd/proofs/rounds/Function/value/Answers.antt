use Rattle.std.proofs.Common.{rules}
use Rattle.digest_ripemd.proofs.rounds.Function.value.Goals as goal

pub returns-in-F3 : goal.returns-in-F3
returns-in-F3 c = search rules
