use Rattle.wire_messages.proofs.DecodingLaws.{read_back, spelling_bytes}
use Rattle.wire_messages.proofs.laws.spelling_is_read_back.Goals as goal

pub returns-clause-message : goal.returns-clause-message
returns-clause-message c = read_back

pub returns-clause-bytes : goal.returns-clause-bytes
returns-clause-bytes c = spelling_bytes
