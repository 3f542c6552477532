use Rattle.std.proofs.Common.{rules}
use Rattle.wire_messages.proofs.reply.ReplyBody.copy.Goals as goal

pub returns-in-Busy : goal.returns-in-Busy
returns-in-Busy c = search rules

pub returns-in-NotMaster : goal.returns-in-NotMaster
returns-in-NotMaster c = search rules
