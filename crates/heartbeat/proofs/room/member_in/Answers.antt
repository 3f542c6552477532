use Rattle.std.proofs.Common.{rules}
use Rattle.heartbeat.proofs.room.member_in.Goals as goal

pub returns : goal.returns
returns c = search rules
