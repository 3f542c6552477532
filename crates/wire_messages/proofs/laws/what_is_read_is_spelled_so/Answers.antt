use Rattle.wire_messages.proofs.DecodingLaws.{what_is_read}
use Rattle.wire_messages.proofs.laws.what_is_read_is_spelled_so.Goals as goal

pub returns : goal.returns
returns c = what_is_read
