use Rattle.std.proofs.Common.{length, ap, arith}
use Rattle.hex.specs.Hex.{lower_digits}
use Rattle.hex.proofs.HexLemmas.{length-encode_with}
use Rattle.journal_text.specs.Values.{body_text}
use Rattle.journal_text.proofs.lengths.body.Goals as goal

pub returns-in-Value-clause-len : goal.returns-in-Value-clause-len
returns-in-Value-clause-len c =
    omega (arith, ap (λ b. length (body_text b)) c.in-Value.is, length-encode_with lower_digits c.in-Value.bytes, ap length c.as_slice.ensures.value)
