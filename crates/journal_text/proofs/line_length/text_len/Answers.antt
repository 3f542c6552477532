use Rattle.std.proofs.Common.{length, ap, arith}
use Rattle.journal_text.specs.Text.{line_text}
use Rattle.journal_text.proofs.LengthLaws.{sent_length}
use Rattle.journal_text.proofs.line_length.text_len.Goals as goal

pub returns-in-Sent : goal.returns-in-Sent
returns-in-Sent c =
    omega (arith, ap (λ l. length (line_text l)) c.in-Sent.is, sent_length c.in-Sent.message c.in-Sent.from c.in-Sent.to c.in-Sent.bytes)
