use Rattle.std.proofs.Common.{◌≡◌}
use Rattle.digest_ripemd.specs.Blocks.{after_blocks}
use Rattle.digest_ripemd.proofs.blocks.after_blocks.Given as goal

abbrev pub invariant-loop-i : goal.invariant-loop-i
invariant-loop-i l = l.words ≡ after_blocks l.fn.words l.bytes l.i
