use Rattle.std.proofs.Common.{◌-◌, ◌%◌, arith}
use Rattle.digest_ripemd.proofs.Feeding.{take-padding}
use Rattle.digest_ripemd.proofs.hasher.padding.Goals as goal

pub returns : goal.returns
returns c = take-padding 0x80 ((119 - c.args.count % 64) % 64) (omega arith)
