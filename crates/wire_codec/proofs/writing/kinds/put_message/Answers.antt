use Rattle.std.proofs.Common.{rules}
use Rattle.wire_codec.proofs.writing.kinds.put_message.Goals as goal

pub returns-in-Refuse : goal.returns-in-Refuse
returns-in-Refuse c = search rules
