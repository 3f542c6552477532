use Rattle.std.proofs.Common.{length, ap, arith}
use Rattle.hex.specs.Hex.{lower_digits}
use Rattle.hex.proofs.HexLemmas.{length-encode_with}
use Rattle.journal_text.specs.FieldTexts.{spaced_text}
use Rattle.journal_text.proofs.line_length.field_len.Goals as goal

pub returns-in-Hex : goal.returns-in-Hex
returns-in-Hex c = omega (arith, ap (λ f. length (spaced_text f)) c.in-Hex.is, length-encode_with lower_digits c.in-Hex.bytes.now)
