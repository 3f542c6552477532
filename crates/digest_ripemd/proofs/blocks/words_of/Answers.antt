use Rattle.std.proofs.Common.{arith}
use Rattle.digest_ripemd.proofs.BlockWords.{words_are}
use Rattle.digest_ripemd.proofs.blocks.words_of.Goals as goal

pub returns : goal.returns
returns c = words_are _ _ _ (omega arith) c.read_u32_into.ensures
