use Rattle.std.proofs.Common.{rules}
use Rattle.journal_text.proofs.text_buffer.TextBuffer.clear.Goals as goal

pub returns : goal.returns
returns c = search rules
