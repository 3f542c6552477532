use Rattle.std.proofs.Common.{refl}
use Rattle.digest_ripemd.specs.Blocks.{after_blocks, chained}
use Rattle.digest_ripemd.specs.Digests.{fed}
use Rattle.digest_ripemd.proofs.hasher.Ripemd160.new.Goals as goal

pub returns : goal.returns
unfolding after_blocks chained fed
returns c = rw c.new.ensures refl
