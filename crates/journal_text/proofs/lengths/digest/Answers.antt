use Rattle.std.proofs.Common.{length, ap, arith}
use Rattle.hex.specs.Hex.{lower_digits}
use Rattle.hex.proofs.HexLemmas.{length-encode_with}
use Rattle.journal_text.proofs.lengths.digest.Goals as goal

pub returns-clause-len : goal.returns-clause-len
returns-clause-len c = omega (arith, length-encode_with lower_digits c.args.d.now, ap length c.as_slice.ensures.same)
